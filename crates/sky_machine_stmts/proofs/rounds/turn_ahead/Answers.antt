use Rattle.std.proofs.Common.{◌≡◌, ◌+◌, true, sym, ap, ◌∙◌, subst, rules}
use Rattle.sky_base.specs.Val.{truth}
use Rattle.sky_base.specs.View.{view}
use Rattle.sky_base.specs.Tree.{Stms}
use Rattle.sky_base.specs.TreeView.{at, exp_view}
use Rattle.sky_base.specs.StmtView.{stms_view}
use Rattle.sky_base.specs.Res.{End, Fin}
use Rattle.sky_base.specs.Eval.{eval_stms, body_at}
use Rattle.sky_base_law.specs.Nodes.{node_at}
use Rattle.sky_base_law.specs.Opened.{HasStms}
use Rattle.sky_machine_exprs.specs.AtOnce.{simple_view}
use Rattle.sky_machine_stmts.proofs.Blocks.{stms_inside, stms_inside_has}
use Rattle.sky_machine_stmts.proofs.Quick.{test_ended, test_on, block_left}
use Rattle.sky_machine_stmts.proofs.rounds.turn_ahead.Goals as goal

pub stmts_ahead-requires-clause-has : goal.stmts_ahead-requires-clause-has
stmts_ahead-requires-clause-has c =
    let sc = c.args.code.now in
    subst (λ (b : Stms). HasStms (λ i. node_at sc i) b c.inside-next.result) (sym c.as_slice.ensures)
    (stms_inside_has (λ i. node_at sc i) c.args.of.now.body.now c.args.of.now.block c.inside-next.result c.inside-next.ensures.some
    c.requires.block.1)

pub returns-in-Goes-clause-same : goal.returns-in-Goes-clause-same
returns-in-Goes-clause-same c = λ w d h.
    let sc = c.args.code.now in
    let o = c.args.of.now in
    let n = o.node in
    let m = o.block in
    let p = at o.line o.col in
    let e = exp_view o.test.now in
    let b = o.body.now in
    let st = c.simple_end.new.state in
    let t = c.stmts_ahead.new.state in
    let r = c.inside-next.result in
    let got = rw c.in-Got.is at (c.in_ok-end.ensures.same w (body_at w d) (n + 1) h) in
    let yes : c.in-Ok-true.field-0 ≡ true = search rules in
    let on = test_ended w d n m p e b (simple_view c.args.test.now) (End.got (view c.in-Got.v)) c.args.state.now st c.requires.within
    c.requires.test got ∙ test_on w d n m p e b (view c.in-Got.v) st (c.in-Ok-true.ensures.ok ∙ ap truth yes) in
    let inside = sym (stms_inside (λ i. node_at sc i) w d b m r st c.inside-next.ensures.some c.requires.block.1)
    ∙ ap (λ x. eval_stms w (body_at w d) x m 0 r st) (sym c.as_slice.ensures) in
    on ∙ block_left w d n m p e b (Fin End.goes t) st
    (inside ∙ (rw c.in-Goes.is at (rw c.in-Ended.is at (c.in_ok-ahead-in-Ok-true.ensures.same w (body_at w d) h))))

pub returns-in-Got-clause-same : goal.returns-in-Got-clause-same
returns-in-Got-clause-same c = λ w d h.
    let sc = c.args.code.now in
    let o = c.args.of.now in
    let n = o.node in
    let m = o.block in
    let p = at o.line o.col in
    let e = exp_view o.test.now in
    let b = o.body.now in
    let st = c.simple_end.new.state in
    let t = c.stmts_ahead.new.state in
    let r = c.inside-next.result in
    let got = rw c.in-Got.is at (c.in_ok-end.ensures.same w (body_at w d) (n + 1) h) in
    let yes : c.in-Ok-true.field-0 ≡ true = search rules in
    let on = test_ended w d n m p e b (simple_view c.args.test.now) (End.got (view c.in-Got.v)) c.args.state.now st c.requires.within
    c.requires.test got ∙ test_on w d n m p e b (view c.in-Got.v) st (c.in-Ok-true.ensures.ok ∙ ap truth yes) in
    let inside = sym (stms_inside (λ i. node_at sc i) w d b m r st c.inside-next.ensures.some c.requires.block.1)
    ∙ ap (λ x. eval_stms w (body_at w d) x m 0 r st) (sym c.as_slice.ensures) in
    let f = c.in_default-ahead.field-0 in
    rw c.in_default-ahead.is (on ∙ block_left w d n m p e b (eval_stms w (body_at w d) (stms_view f.rest.now) f.node f.step f.next t) st
    (inside ∙ (rw c.in_default-ahead.is at (c.in_ok-ahead-in-Ok-true.ensures.same w (body_at w d) h))))

use Rattle.std.proofs.Common.{◌+◌, sym, ap, ◌∙◌}
use Rattle.sky_base.specs.TreeView.{at, exp_view}
use Rattle.sky_base.specs.Res.{return_part}
use Rattle.sky_base.specs.Eval.{eval, eval_stm, after, body_at}
use Rattle.sky_base_law.specs.Nodes.{node_at}
use Rattle.sky_machine_entries.specs.Config.{room, body_in, rest_in}
use Rattle.sky_machine_entries.specs.Entries.{forms}
use Rattle.sky_machine_stmts.specs.Returns.{returned}
use Rattle.sky_machine_stmts.proofs.Blocks.{part_begun, exp_inside, exp_inside_has}
use Rattle.sky_machine_stmts.proofs.stmt.begin_return.Goals as goal

pub returns-in_ok-push-in-Some-clause-same : goal.returns-in_ok-push-in-Some-clause-same
returns-in_ok-push-in-Some-clause-same c = λ w.
    let e = exp_view c.in-Some.value.now in
    let en = return_part c.args.node in
    let st = c.visit.new.state in
    let old = c.args.entries.now.items in
    let now = room w (forms old) in
    let inside = room w (forms c.push.new.entries.items) in
    let is = exp_inside (λ i. node_at c.args.code.now i) e c.args.node c.inside.result c.inside.ensures.some (rw c.in-Some.is at c.requires.has).1 in
    c.in_ok-push-in-Some.ensures.rest w (eval w (body_at w inside) e c.inside.result st)
    ∙ ap (rest_in w old) (part_begun w now inside (c.in_ok-push-in-Some.ensures.room w) e (c.args.node + 1) c.inside.result st en
    (after w (body_at w now) en) is ∙ sym (c.visit.ensures.more c.if-not-visit.false _))
    ∙ ap (λ o. rest_in w old (eval_stm w (body_in w (forms old)) (returned o (at c.args.line c.args.col)) c.args.node c.args.state.now))
    (sym c.in-Some.is)

pub returns-in_ok-push-in-Some-clause-goes : goal.returns-in_ok-push-in-Some-clause-goes
returns-in_ok-push-in-Some-clause-goes c =
    exp_inside_has (λ i. node_at c.args.code.now i) (exp_view c.in-Some.value.now) c.args.node c.inside.result c.inside.ensures.some
    (rw c.in-Some.is at c.requires.has).1

pub returns-in_ok-push-in-Some-clause-ready : goal.returns-in_ok-push-in-Some-clause-ready
returns-in_ok-push-in-Some-clause-ready c = c.in_ok-push-in-Some.ensures.ready c.args.code.now c.requires.ready tt

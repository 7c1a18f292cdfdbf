use Rattle.std.proofs.Common.{◌≢◌, ◌+◌, sym, ap, ◌∙◌, true, false, rules}
use Rattle.sky_base.specs.Val.{truth}
use Rattle.sky_base.specs.View.{view}
use Rattle.sky_base.specs.Res.{gives}
use Rattle.sky_base.specs.TreeView.{at, exp_view, ands_view}
use Rattle.sky_base.specs.Eval.{eval, eval_ands, body_at}
use Rattle.sky_machine_code.specs.Shapes.{stops_at}
use Rattle.sky_machine_entries.specs.Config.{room, body_in, rest_in}
use Rattle.sky_machine_entries.specs.Entries.{forms}
use Rattle.sky_machine_exprs.proofs.Chains.{truth_decides, ands_none, and_next}
use Rattle.sky_machine_exprs.proofs.logic.got_and.Goals as goal

pub returns-in-None-clause-same : goal.returns-in-None-clause-same
returns-in-None-clause-same c = λ w.
    let k = c.args.chain in
    let st = c.args.state.now in
    let p = at k.line k.col in
    let old = c.args.entries.now.items in
    ap (rest_in w old) (sym (c.in-Err.ensures.err st (gives (truth true)) (gives (truth false))) ∙ truth_decides (view c.args.v) p st
    ∙ ap (λ xs. eval_ands w (body_in w (forms old)) xs k.node (k.step + 1) k.next (stops_at k.stop) p (view c.args.v) st)
    (sym (ands_none k.rest.now c.in-None.ensures.cases)))

pub returns-clause-same : goal.returns-clause-same
returns-clause-same c = λ w.
    let k = c.args.chain in
    let j = c.in-Some.join.now in
    let old = c.args.entries.now.items in
    let new = c.push.new.entries.items in
    let now = room w (forms old) in
    let inside = room w (forms new) in
    let differ : c.in-Ok-decided.b ≢ k.stop = search rules in
    let st = c.args.state.now in
    let after_visit = c.visit.new.state in
    c.in_ok-push-in-Ok-decided.ensures.rest w (eval w (body_at w inside) (exp_view j.operand) k.next after_visit)
    ∙ ap (rest_in w old) (and_next w now inside k.node (k.step + 1) k.next c.after_exp-after.result k.stop c.in-Ok-decided.b
    (at k.line k.col) (at j.line j.col) (view c.args.v) (exp_view j.operand) (ands_view c.in-Some.rest.now) (ands_view k.rest.now) st
    after_visit (c.in_ok-push-in-Ok-decided.ensures.room w) c.after_exp-after.ensures (ap ands_view c.in-Some.ensures.cases.0)
    c.in-Ok-decided.ensures.ok differ (c.visit.ensures.more c.if-not-visit.false))

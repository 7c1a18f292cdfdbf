use Rattle.std.proofs.Common.{◌≡◌, true, ap, ◌∙◌, rules}
use Rattle.sky_base.specs.Val.{truth}
use Rattle.sky_base.specs.View.{view}
use Rattle.sky_base.specs.TreeView.{at, exp_view}
use Rattle.sky_base.specs.Eval.{eval_block, body_at}
use Rattle.sky_machine_entries.specs.Config.{room, rest_in}
use Rattle.sky_machine_entries.specs.Entries.{forms}
use Rattle.sky_machine_stmts.proofs.Blocks.{while_body_begun}
use Rattle.sky_machine_stmts.proofs.loops.got_while.Goals as goal

pub returns-clause-same : goal.returns-clause-same
returns-clause-same c = λ w st.
    let t = c.args.turn in
    let e = exp_view t.test.now in
    let p = at t.line t.col in
    let b = t.body.now in
    let old = c.args.entries.now.items in
    let now = room w (forms old) in
    let inside = room w (forms c.push.new.entries.items) in
    let on : c.in-Ok-true.field-0 ≡ true = search rules in
    c.in_ok-control-in-Ok-true.ensures.same w st ∙ c.in_ok-push-in-Ok-true.ensures.rest w (eval_block w (body_at w inside) b t.block st)
    ∙ ap (rest_in w old) (while_body_begun w now inside (c.in_ok-push-in-Ok-true.ensures.room w) t.node t.block p e b (view c.args.v) st
    (c.in-Ok-true.ensures.ok ∙ ap truth on))

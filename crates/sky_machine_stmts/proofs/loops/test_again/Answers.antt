use Rattle.std.proofs.Common.{refl, ap, ◌∙◌}
use Rattle.sky_base.specs.TreeView.{at, exp_view}
use Rattle.sky_base.specs.Res.{repeat_test}
use Rattle.sky_base.specs.Eval.{eval, after, body_at}
use Rattle.sky_machine_entries.specs.Config.{room, rest_in}
use Rattle.sky_machine_entries.specs.Entries.{forms}
use Rattle.sky_machine_stmts.proofs.Blocks.{part_begun}
use Rattle.sky_machine_stmts.proofs.loops.test_again.Goals as goal

pub returns-clause-same : goal.returns-clause-same
returns-clause-same c = λ w st.
    let t = c.args.turn in
    let e = exp_view t.test.now in
    let p = at t.line t.col in
    let b = t.body.now in
    let old = c.args.entries.now.items in
    let now = room w (forms old) in
    let inside = room w (forms c.push.new.entries.items) in
    c.in_ok-push.ensures.rest w (eval w (body_at w inside) e t.test_at st)
    ∙ ap (rest_in w old) (part_begun w now inside (c.in_ok-push.ensures.room w) e t.test_at t.test_at st (repeat_test t.node t.test_at p b e)
    (after w (body_at w now) (repeat_test t.node t.test_at p b e)) refl)

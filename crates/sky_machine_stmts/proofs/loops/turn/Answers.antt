use Rattle.std.proofs.Common.{◌+◌, ap, ◌∙◌}
use Rattle.sky_base.specs.TreeView.{at, exp_view}
use Rattle.sky_base.specs.Res.{while_test}
use Rattle.sky_base.specs.Eval.{eval, after, body_at}
use Rattle.sky_base_law.specs.Nodes.{node_at}
use Rattle.sky_machine_entries.specs.Config.{room, rest_in}
use Rattle.sky_machine_entries.specs.Entries.{forms}
use Rattle.sky_machine_stmts.proofs.Blocks.{part_begun, exp_inside}
use Rattle.sky_machine_stmts.proofs.Turns.{while_turn}
use Rattle.sky_machine_stmts.proofs.loops.turn.Goals as goal

pub returns-clause-same : goal.returns-clause-same
returns-clause-same c = λ w st h.
    let t = c.args.turn in
    let e = exp_view t.test.now in
    let p = at t.line t.col in
    let b = t.body.now in
    let old = c.args.entries.now.items in
    let now = room w (forms old) in
    let inside = room w (forms c.push.new.entries.items) in
    let is = exp_inside (λ i. node_at c.args.code.now i) e t.node c.inside-part.result c.inside-part.ensures.some c.requires.entry.0 in
    c.in_ok-push.ensures.rest w (eval w (body_at w inside) e c.inside-part.result st)
    ∙ ap (rest_in w old) (part_begun w now inside (c.in_ok-push.ensures.room w) e (t.node + 1) c.inside-part.result st
    (while_test t.node t.block p e b) (after w (body_at w now) (while_test t.node t.block p e b)) is
    ∙ while_turn w now t.node t.block p e b st h)

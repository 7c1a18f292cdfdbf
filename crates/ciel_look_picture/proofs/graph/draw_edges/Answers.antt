-- One edge more.
use Rattle.std.proofs.Common.{[], ◌++◌}
use Rattle.ciel_look_sheet.proofs.Drawing.{draws_none, draws_two}
use Rattle.ciel_look_picture.proofs.graph.draw_edges.Goals as goal

pub loop-edge-init : goal.loop-edge-init
loop-edge-init c = ([], draws_none c.args.sheet.now.marks)

pub loop-edge-preserved : goal.loop-edge-preserved
loop-edge-preserved c =
    let some = c.loop-edge.invariant in
    let one = c.in_ok-draw_edge.ensures.drawn in
    (some.0 ++ one.0, draws_two [] some.0 [] one.0 0 0 _ _ _ some.1 one.1)

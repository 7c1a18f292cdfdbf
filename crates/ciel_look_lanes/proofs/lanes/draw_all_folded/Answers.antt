-- One lane more.
use Rattle.std.proofs.Common.{[], ◌++◌}
use Rattle.ciel_look_sheet.proofs.Drawing.{draws_none, draws_two}
use Rattle.ciel_look_lanes.proofs.lanes.draw_all_folded.Goals as goal

pub loop-lane-init : goal.loop-lane-init
loop-lane-init c = ([], draws_none c.args.sheet.now.marks)

pub loop-lane-preserved : goal.loop-lane-preserved
loop-lane-preserved c =
    let some = c.loop-lane.invariant in
    let one = c.in_ok-draw_folded.ensures.drawn in
    (some.0 ++ one.0, draws_two some.0 [] one.0 [] 0 0 _ _ _ some.1 one.1)

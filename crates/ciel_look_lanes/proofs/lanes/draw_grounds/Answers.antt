-- One more.
use Rattle.std.proofs.Common.{[]}
use Rattle.ciel_look_sheet.proofs.Drawing.{draws_none, draws_two}
use Rattle.ciel_look_lanes.proofs.lanes.draw_grounds.Goals as goal

pub loop-lane-init : goal.loop-lane-init
loop-lane-init c = draws_none c.args.sheet.now.marks

pub loop-lane-preserved : goal.loop-lane-preserved
loop-lane-preserved c = draws_two [] [] [] [] 0 0 _ _ _ c.loop-lane.invariant c.in_ok-draw_lane.ensures.drawn

-- Nothing of what counts is drawn so far.
use Rattle.std.proofs.Common.{[]}
use Rattle.ciel_look_sheet.specs.Drawn.{Draws}
use Rattle.ciel_look_lanes.proofs.lanes.draw_grounds.Given as goal

abbrev pub invariant-loop-lane : goal.invariant-loop-lane
invariant-loop-lane l = Draws [] [] 0 l.initial.sheet.marks l.sheet.marks

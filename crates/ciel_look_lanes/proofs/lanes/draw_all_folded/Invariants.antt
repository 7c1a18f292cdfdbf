-- Boxes alone so far.
use Rattle.std.proofs.Common.{ℕ, List, []}
use Rattle.ciel_look_sheet.specs.Drawn.{Draws}
use Rattle.ciel_look_lanes.proofs.lanes.draw_all_folded.Given as goal

abbrev pub invariant-loop-lane : goal.invariant-loop-lane
invariant-loop-lane l = (boxes : List (List ℕ)) × Draws boxes [] 0 l.initial.sheet.marks l.sheet.marks

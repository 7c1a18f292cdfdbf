-- Boxes alone so far.
use Rattle.std.proofs.Common.{ℕ, List, []}
use Rattle.ciel_look_sheet.specs.Drawn.{Draws}
use Rattle.ciel_look_lanes.proofs.lanes.draw_parts.Given as goal

abbrev pub invariant-loop-some : goal.invariant-loop-some
invariant-loop-some l = (boxes : List (List ℕ)) × Draws boxes [] 0 l.initial.sheet.marks l.sheet.marks

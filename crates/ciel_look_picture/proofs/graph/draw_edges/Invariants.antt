-- Arrows alone so far.
use Rattle.std.proofs.Common.{ℕ, List, []}
use Rattle.ciel_look_sheet.specs.Drawn.{Draws}
use Rattle.ciel_look_picture.proofs.graph.draw_edges.Given as goal

abbrev pub invariant-loop-edge : goal.invariant-loop-edge
invariant-loop-edge l = (arrows : List (List ℕ)) × Draws [] arrows 0 l.initial.sheet.marks l.sheet.marks

-- The arrows so far.
use Rattle.std.proofs.Common.{[], flat_map, take}
use Rattle.ciel_look_sheet.specs.Drawn.{Draws}
use Rattle.ciel_look_lanes.specs.Bars.{copy_titles}
use Rattle.ciel_look_lanes.proofs.lanes.draw_copies.Given as goal

abbrev pub invariant-loop-copied : goal.invariant-loop-copied
invariant-loop-copied l = Draws [] (flat_map (copy_titles l.scene) (take l.copied-index l.copies)) 0 l.initial.sheet.marks l.sheet.marks

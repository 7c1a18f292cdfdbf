-- The crosses so far.
use Rattle.std.proofs.Common.{[]}
use Rattle.ciel_look_sheet.specs.Drawn.{Draws}
use Rattle.ciel_look_lanes.proofs.lanes.draw_losses.Given as goal

abbrev pub invariant-loop-loss : goal.invariant-loop-loss
invariant-loop-loss l = Draws [] [] l.loss-index l.initial.sheet.marks l.sheet.marks

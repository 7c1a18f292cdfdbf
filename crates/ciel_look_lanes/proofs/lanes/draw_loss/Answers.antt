-- A cross and its word.
use Rattle.std.proofs.Common.{[]}
use Rattle.ciel_look_sheet.proofs.Drawing.{draws_two}
use Rattle.ciel_look_lanes.proofs.lanes.draw_loss.Goals as goal

pub returns : goal.returns
returns c = record { drawn = draws_two [] [] [] [] 1 0 _ _ _ c.in_ok-cross.ensures.drawn c.in_ok-text-2.ensures.drawn }

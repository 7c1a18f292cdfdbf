-- A name and a line.
use Rattle.std.proofs.Common.{[]}
use Rattle.ciel_look_sheet.proofs.Drawing.{draws_two}
use Rattle.ciel_look_lanes.proofs.lanes.draw_lane.Goals as goal

pub returns : goal.returns
returns c = record { drawn = draws_two [] [] [] [] 0 0 _ _ _ c.in_ok-text.ensures.drawn c.in_ok-line.ensures.drawn }

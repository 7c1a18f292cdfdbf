-- A box, where the first and the last order and its task are there.
use Rattle.std.proofs.Common.{[]}
use Rattle.ciel_look_sheet.proofs.Drawing.{draws_none}
use Rattle.ciel_look_lanes.proofs.lanes.draw_some.Goals as goal

pub returns-in_default : goal.returns-in_default
returns-in_default c = record { drawn = ([], draws_none c.args.sheet.now.marks) }

pub returns-in_default-2 : goal.returns-in_default-2
returns-in_default-2 c = record { drawn = ([], draws_none c.args.sheet.now.marks) }

pub returns : goal.returns
returns c = record { drawn = (_, c.in_ok-boxed.ensures.drawn) }

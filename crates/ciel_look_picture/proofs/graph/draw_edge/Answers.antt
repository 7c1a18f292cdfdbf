-- An arrow, where both nodes are there.
use Rattle.std.proofs.Common.{[]}
use Rattle.ciel_look_sheet.proofs.Drawing.{draws_none}
use Rattle.ciel_look_picture.proofs.graph.draw_edge.Goals as goal

pub returns-in_default : goal.returns-in_default
returns-in_default c = record { drawn = ([], draws_none c.args.sheet.now.marks) }

pub returns : goal.returns
returns c = record { drawn = (_, c.in_ok-arrow.ensures.drawn) }

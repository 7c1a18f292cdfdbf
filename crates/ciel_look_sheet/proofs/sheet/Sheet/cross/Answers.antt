-- One piece more.
use Rattle.ciel_look_sheet.specs.Drawn as drawn
use Rattle.ciel_look_sheet.proofs.Drawing.{draws_one}
use Rattle.ciel_look_sheet.proofs.sheet.Sheet.cross.Goals as goal

pub returns : goal.returns
returns c = record { drawn = draws_one (drawn.cross c.word-2.new.attributes) c.args.self.now.marks _ c.in_ok-put_leaf.ensures.put }

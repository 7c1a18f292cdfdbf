-- One piece more.
use Rattle.std.proofs.Common.{◌∙◌}
use Rattle.ciel_look_sheet.specs.Drawn as drawn
use Rattle.ciel_look_sheet.proofs.Drawing.{draws_one}
use Rattle.ciel_look_sheet.proofs.sheet.Sheet.line.Goals as goal

pub returns : goal.returns
returns c =
    record {
      drawn = draws_one (drawn.line c.word.new.attributes) c.args.self.now.marks _ (c.reach.ensures.marks ∙ c.in_ok-put_leaf.ensures.put);
    }

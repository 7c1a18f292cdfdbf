-- One piece more.
use Rattle.std.proofs.Common.{◌∙◌}
use Rattle.ciel_look_sheet.specs.Drawn as drawn
use Rattle.ciel_look_sheet.proofs.Drawing.{draws_one}
use Rattle.ciel_look_sheet.proofs.sheet.Sheet.text.Goals as goal

pub returns : goal.returns
returns c =
    let p = c.in_ok-put_text.ensures.put in
    record { drawn = draws_one (drawn.words p.0 c.args.text.now) c.args.self.now.marks _ (c.reach.ensures.marks ∙ p.1) }

-- Piece by piece.
use Rattle.std.proofs.Common.{◌++◌, ap, ◌∙◌}
use Rattle.ciel_look_shown.specs.Plain.{shown}
use Rattle.ciel_look_sheet.proofs.Titles.{title_put}
use Rattle.ciel_look_sheet.proofs.nodes.known_tip.Goals as goal

pub returns : goal.returns
returns c =
    record {
      title = title_put c.args.known.now _ _ _ _ c.in_ok-text.ensures.words
          (c.in_ok-put.ensures.put ∙ ap (λ b. c.in_ok-text.text.words ++ shown b) c.as_bytes.ensures.value) c.in_ok-text.ensures.whole
          c.in_ok-put_all.ensures.put;
    }

-- Piece by piece.
use Rattle.ciel_look_text.proofs.Saying.{says_all, says_three}
use Rattle.ciel_look_text.proofs.why.start_line.Goals as goal

pub returns : goal.returns
returns c =
    let said = c.in_ok-say_reason.ensures.said in
    record {
      line = (
        said.0,
        said.1,
        says_all _ _ c.say_reason.new.line c.new-line.ensures
            (says_three _ _ _ _ _ _ _ c.in_ok-say_start.ensures.said c.in_ok-say.ensures.said said.2),
      );
    }

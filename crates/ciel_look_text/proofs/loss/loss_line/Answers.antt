-- Piece by piece.
use Rattle.ciel_look_text.proofs.Saying.{says_all, says_five}
use Rattle.ciel_look_text.proofs.loss.loss_line.Goals as goal

pub returns : goal.returns
returns c =
    record {
      line = says_all _ _ c.say_took.new.line c.new-line.ensures
          (says_five _ _ _ _ _ _ _ _ _ _ _ c.in_ok-say_with.ensures.said c.in_ok-say.ensures.said c.in_ok-say_ends.ensures.said
          c.in_ok-say-2.ensures.said c.in_ok-say_took.ensures.said);
    }

-- Piece by piece.
use Rattle.ciel_look_text.proofs.Saying.{says_four}
use Rattle.ciel_look_text.proofs.order.say_start.Goals as goal

pub returns : goal.returns
returns c =
    record {
      said = says_four _ _ _ _ _ _ _ _ _ c.in_ok-say_lead.ensures.said c.in_ok-say_number.ensures.said c.in_ok-say_with.ensures.said
          c.in_ok-say_from.ensures.said;
    }

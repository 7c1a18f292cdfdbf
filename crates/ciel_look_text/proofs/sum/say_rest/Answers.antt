-- Piece by piece.
use Rattle.ciel_look_text.proofs.Saying.{says_four}
use Rattle.ciel_look_text.proofs.sum.say_rest.Goals as goal

pub returns : goal.returns
returns c =
    record {
      said = says_four _ _ _ _ _ _ _ _ _ c.in_ok-say_count.ensures.said c.in_ok-say_count-2.ensures.said c.in_ok-say_count-3.ensures.said
          c.in_ok-say_count-4.ensures.said;
    }

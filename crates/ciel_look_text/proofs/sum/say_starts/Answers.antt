-- Piece by piece.
use Rattle.ciel_look_text.proofs.Saying.{says_three}
use Rattle.ciel_look_text.proofs.sum.say_starts.Goals as goal

pub returns : goal.returns
returns c =
    record { said = says_three _ _ _ _ _ _ _ c.in_ok-say_count.ensures.said c.in_ok-say.ensures.said c.in_ok-say_count-2.ensures.said }

-- Piece by piece.
use Rattle.ciel_look_text.proofs.Saying.{says_two}
use Rattle.ciel_look_text.proofs.label.say_with.Goals as goal

pub returns : goal.returns
returns c = record { said = says_two _ _ _ _ _ c.in_ok-say.ensures.said c.in_ok-say_number.ensures.said }

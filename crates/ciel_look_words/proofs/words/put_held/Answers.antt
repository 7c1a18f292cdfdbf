-- Piece by piece.
use Rattle.ciel_look_words.proofs.KeptBytes.{puts_three}
use Rattle.ciel_look_words.proofs.words.put_held.Goals as goal

pub returns : goal.returns
returns c = puts_three c.args.out.now _ _ _ _ _ _ c.in_ok-put.ensures c.in_ok-put_value.ensures c.in_ok-put-2.ensures

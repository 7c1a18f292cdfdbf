-- Piece by piece.
use Rattle.std.proofs.Common.{codes, decimal, subst}
use Rattle.ciel_look_words.specs.Kept.{Puts}
use Rattle.ciel_look_words.proofs.KeptBytes.{puts_two}
use Rattle.ciel_look_words.proofs.words.put_count.Goals as goal

pub returns : goal.returns
returns c = puts_two c.args.out.now _ _ (codes " of ") (decimal c.args.count) c.in_ok-put.ensures
    (subst (λ b. Puts c.put.new.out b c.put-2.new.out) c.format.ensures.text c.in_ok-put-2.ensures)

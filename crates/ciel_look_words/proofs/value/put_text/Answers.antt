-- Piece by piece.
use Rattle.std.proofs.Common.{codes, subst}
use Rattle.ciel_look_words.specs.Kept.{Puts}
use Rattle.ciel_look_words.proofs.KeptBytes.{puts_three}
use Rattle.ciel_look_words.proofs.value.put_text.Goals as goal

pub returns : goal.returns
returns c =
    puts_three c.args.out.now _ _ _ (codes "\"") c.args.text.now (codes "\"") c.in_ok-put.ensures
    (subst (λ b. Puts c.put.new.out b c.put-2.new.out) c.as_str.ensures.value c.in_ok-put-2.ensures) c.in_ok-put-3.ensures

-- Piece by piece.
use Rattle.std.proofs.Common.{◌≡◌, codes, rules, subst}
use Rattle.ciel_look_words.specs.Kept.{Puts}
use Rattle.ciel_look_words.specs.Words.{digits}
use Rattle.ciel_look_words.proofs.KeptBytes.{puts_two}
use Rattle.ciel_look_words.proofs.value.put_name.Goals as goal

pub returns : goal.returns
returns c =
    let name : c.as_str.result.now ≡ digits c.args.name.now = search rules in
    puts_two c.args.out.now _ _ (digits c.args.name.now) (codes "..")
    (subst (λ b. Puts c.args.out.now b c.put.new.out) name c.in_ok-put.ensures) c.in_ok-put-2.ensures

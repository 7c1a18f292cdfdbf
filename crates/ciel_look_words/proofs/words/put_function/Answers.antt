-- The main call has no name.
use Rattle.std.proofs.Common.{◌≡◌, false, true, sym, ◌∙◌, subst}
use Rattle.ciel_look_words.specs.Kept.{Puts}
use Rattle.ciel_look_words.proofs.KeptBytes.{head_main, head_other}
use Rattle.ciel_look_words.proofs.words.put_function.Goals as goal

pub returns-then-is_empty : goal.returns-then-is_empty
returns-then-is_empty c =
    subst (λ b. Puts c.args.out.now b c.put.new.out) (sym (head_main c.args.fun.now (c.is_empty.ensures.0 c.if-is_empty.true)))
    c.in_ok-put.ensures

pub returns : goal.returns
returns c =
    subst (λ b. Puts c.args.out.now b c.put-2.new.out)
    (sym (head_other c.args.fun.now
    (λ e. absurd (let no : false ≡ true = sym c.if-is_empty.false ∙ c.is_empty.ensures.1 e in cc))))
    (subst (λ b. Puts c.args.out.now b c.put-2.new.out) c.as_str.ensures.value c.in_ok-put-2.ensures)

-- The main call has no name.
use Rattle.std.proofs.Common.{◌≡◌, false, true, sym, ◌∙◌, subst}
use Rattle.ciel_look_words.specs.Kept.{Puts}
use Rattle.ciel_look_words.proofs.KeptBytes.{call_main, call_other, puts_four}
use Rattle.ciel_look_words.proofs.words.put_call.Goals as goal

pub returns-then-is_empty : goal.returns-then-is_empty
returns-then-is_empty c =
    subst (λ b. Puts c.args.out.now b c.put.new.out) (sym (call_main c.args.fun.now c.args.args.now (c.is_empty.ensures.0 c.if-is_empty.true)))
    c.in_ok-put.ensures

pub returns : goal.returns
returns c =
    subst (λ b. Puts c.args.out.now b c.put-4.new.out)
    (sym (call_other c.args.fun.now c.args.args.now
    (λ e. absurd (let no : false ≡ true = sym c.if-is_empty.false ∙ c.is_empty.ensures.1 e in cc))))
    (puts_four c.args.out.now _ _ _ _ c.args.fun.now _ _ _
    (subst (λ b. Puts c.args.out.now b c.put-2.new.out) c.as_str.ensures.value c.in_ok-put-2.ensures) c.in_ok-put-3.ensures c.in_ok-put_values.ensures c.in_ok-put-4.ensures)

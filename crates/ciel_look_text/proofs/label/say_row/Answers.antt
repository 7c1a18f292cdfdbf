-- Nothing, or the first eight and how many others there are.
use Rattle.std.proofs.Common.{◌≡◌, ◌++◌, ◌-◌, [], arith, codes, length, map, refl, subst, sym, take, ◌∙◌}
use Rattle.std.proofs.lemmas.Bool.{eqb-false, eqb-true}
use Rattle.ciel_look_tasks.specs.Known.{knowns}
use Rattle.ciel_look_text.specs.Says.{Says}
use Rattle.ciel_look_text.specs.Words.{and_more, led, named}
use Rattle.ciel_look_text.proofs.Saying.{first_eight, row_none, row_some, says_two}
use Rattle.ciel_look_text.proofs.label.say_row.Goals as goal

pub returns-then-is_empty : goal.returns-then-is_empty
returns-then-is_empty c =
    record {
      said = subst (λ b. Says c.args.line.now b c.say.new.line)
          (sym (row_none (knowns c.args.scene.now.known.all.items) c.args.names.now (eqb-true _ 0 (sym c.is_empty.ensures ∙ c.if-is_empty.true))))
          c.in_ok-say.ensures.said;
    }

pub returns : goal.returns
returns c =
    let known = knowns c.args.scene.now.known.all.items in
    let names = c.args.names.now in
    let told = c.min-told.result in
    let eight : take told names ≡ take 8 names = first_eight names (length names) told refl c.min-told.ensures in
    let others : length names - told ≡ length names - 8 = omega (arith, c.min-told.ensures) in
    let some : length names ≡ 0 → ⊥ = eqb-false _ 0 (sym c.is_empty.ensures ∙ c.if-is_empty.false) in
    record {
      said = subst (λ b. Says c.args.line.now b c.say_others.new.line) (sym (row_some known names some))
          (says_two _ _ _ _ _
          (subst (λ ns. Says c.args.line.now (led [] (codes ", ") (map (named known) ns)) c.say_names.new.line) eight c.in_ok-say_names.ensures.said)
          (subst (λ n. Says c.say_names.new.line (and_more n) c.say_others.new.line) others c.in_ok-say_others.ensures.said));
    }

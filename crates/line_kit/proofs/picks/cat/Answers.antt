use Rattle.std.proofs.Common.{◌≡◌, ◌+◌, ℕ, List, ◌∷◌, drop, Option, sym, ap, ◌∙◌}
use Rattle.std.proofs.lemmas.List.{drop_more}
use Rattle.line_kit.specs.Lines.{joined, lines, all_lines}
use Rattle.line_kit.specs.Written.{extended}
use Rattle.line_kit.proofs.WrittenLaw.{extended-extended, joined-append}
use Rattle.line_kit.proofs.picks.cat.Goals as goal

pub loop-input-preserved : goal.loop-input-preserved
loop-input-preserved c =
    let inputs = c.args.inputs.now in
    let i = c.loop-input.input-index in
    let out = c.loop-input.out in
    let x = c.input-item.result in
    let more = all_lines (drop (i + 1) inputs) in
    let first : drop i inputs ≡ x ∷ drop (i + 1) inputs =
    drop_more inputs i x c.loop-input-test.true ∙ ap (λ (y : List ℕ). y ∷ drop (i + 1) inputs) (sym c.input-item.is) in
    let put : c.put_lines.new.out ≡ extended out (joined (lines x)) =
    c.in_ok-put_lines.ensures ∙ ap (λ (bytes : List ℕ). extended out (joined (lines bytes))) c.as_slice.ensures in
    ap (λ (o : Option (List ℕ)). extended o (joined more)) put ∙ extended-extended out (joined (lines x)) (joined more)
    ∙ ap (extended out) (sym (joined-append (lines x) more)) ∙ ap (λ (xs : List (List ℕ)). extended out (joined (all_lines xs))) (sym first)
    ∙ c.loop-input.invariant

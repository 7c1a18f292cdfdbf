use Rattle.std.proofs.Common.{◌≡◌, ◌+◌, ℕ, List, [], ◌∷◌, drop, sym, ap, ◌∙◌}
use Rattle.std.proofs.lemmas.List.{drop_more}
use Rattle.std.proofs.lemmas.List.Elements.{filter-append}
use Rattle.line_kit.specs.Lines.{with_text, joined, lines, all_lines, contains}
use Rattle.line_kit.specs.Written.{capped, extended, finished}
use Rattle.line_kit.proofs.WrittenLaw.{further, extended-start, joined-append}
use Rattle.line_kit.proofs.FindLaw.{none_at_all}
use Rattle.line_kit.proofs.search.grep.Goals as goal

pub returns-then-has_line_feed : goal.returns-then-has_line_feed
returns-then-has_line_feed c =
    let text = c.args.text.now in
    let none : with_text text (all_lines c.args.inputs.now) ≡ [] =
    none_at_all c.args.inputs.now text (sym c.has_line_feed.ensures ∙ c.if-has_line_feed.true) in
    c.alone.ensures (with_text text (all_lines c.args.inputs.now))
    (ap finished c.new-out.ensures ∙ extended-start [] ∙ ap (λ (ls : List (List ℕ)). capped (joined ls)) (sym none))

pub loop-input-preserved : goal.loop-input-preserved
loop-input-preserved c =
    let text = c.args.text.now in
    let inputs = c.args.inputs.now in
    let i = c.loop-input.input-index in
    let out = c.loop-input.out in
    let x = c.input-item.result in
    let more = with_text text (all_lines (drop (i + 1) inputs)) in
    let first : drop i inputs ≡ x ∷ drop (i + 1) inputs =
    drop_more inputs i x c.loop-input-test.true ∙ ap (λ (y : List ℕ). y ∷ drop (i + 1) inputs) (sym c.input-item.is) in
    let put : finished c.put_found.new.out ≡ extended out (joined (with_text text (lines x))) =
    c.in_ok-put_found.ensures ∙ ap (λ (bytes : List ℕ). extended out (joined (with_text c.new-finder.result (lines bytes)))) c.as_slice.ensures
    ∙ ap (λ (n : List ℕ). extended out (joined (with_text n (lines x)))) c.new-finder.ensures in
    further c.put_found.new.out out (joined (with_text text (lines x))) (joined more) put
    ∙ ap (extended out) (sym (joined-append (with_text text (lines x)) more))
    ∙ ap (λ (ls : List (List ℕ)). extended out (joined ls))
    (sym (filter-append (λ line. contains line text) (lines x) (all_lines (drop (i + 1) inputs))))
    ∙ ap (λ (xs : List (List ℕ)). extended out (joined (with_text text (all_lines xs)))) (sym first) ∙ c.loop-input.invariant

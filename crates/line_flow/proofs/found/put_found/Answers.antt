use Rattle.std.proofs.Common.{◌≡◌, ◌++◌, ℕ, List, [], ◌∷◌, sym, ap, ◌∙◌, append-nil}
use Rattle.line_kit.specs.Lines.{lines, joined, with_text}
use Rattle.line_kit.proofs.FindLaw.{none_at_all}
use Rattle.line_flow.proofs.found.put_found.Goals as goal

pub returns-then-has_line_feed-clause-ok : goal.returns-then-has_line_feed-clause-ok
returns-then-has_line_feed-clause-ok c =
    let text = c.args.text.now in
    let block = c.args.block.now in
    let bytes = c.args.bytes.now.items in
    let none : with_text text (lines block) ≡ [] = ap (with_text text) (sym (append-nil (lines block)))
    ∙ none_at_all (block ∷ []) text (sym c.if-has_line_feed.ensures) in
    sym (ap (λ (ls : List (List ℕ)). bytes ++ joined ls) none ∙ append-nil bytes)

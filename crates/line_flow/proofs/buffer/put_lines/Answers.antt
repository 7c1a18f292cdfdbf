use Rattle.std.proofs.Common.{◌≡◌, ◌++◌, ℕ, List, [], ◌∷◌, false, cond, sym, ap, ◌∙◌, append-nil}
use Rattle.line_kit.specs.Lines.{lines, joined, is_open}
use Rattle.line_kit.proofs.OpenLaw.{joined-lines}
use Rattle.line_flow.proofs.Results.{on_ok}
use Rattle.line_flow.proofs.buffer.put_lines.Goals as goal

pub returns-else-is_open-clause-ok : goal.returns-else-is_open-clause-ok
returns-else-is_open-clause-ok c =
    let block = c.args.block.now in
    let shut : is_open block ≡ false = sym c.is_open.ensures ∙ c.if-is_open.false in
    let whole : joined (lines block) ≡ block ++ [] = joined-lines block ∙ ap (λ b. cond b (block ++ 10 ∷ []) block) shut ∙ sym (append-nil block) in
    on_ok c.put_both-else-is_open.result (λ a h. h ∙ ap (λ (xs : List ℕ). c.args.bytes.now.items ++ xs) (sym whole))
    c.put_both-else-is_open.ensures.ok

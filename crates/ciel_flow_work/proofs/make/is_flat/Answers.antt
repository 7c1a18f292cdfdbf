use Rattle.std.proofs.Common.{◌≡◌, ℕ, List, ◌++◌, ◌+◌, drop, sym, ap, ap₂, ◌∙◌, arith, rules}
use Rattle.std.proofs.lemmas.List.{at_drop_more, take-append-drop}
use Rattle.ciel_flow_pieces.specs.Left.{flat}
use Rattle.ciel_flow_work.proofs.make.is_flat.Goals as goal

pub loop-part-preserved : goal.loop-part-preserved
loop-part-preserved c left =
    let k = c.loop-part.part-index in
    let parts = c.args.parts.now in
    let part = c.part-item.result in
    let first = c.split_at.result.0.now in
    let more = c.split_at.result.1.now in
    let rest = flat (drop (k + 1) parts) in
    let whole : first ++ more ≡ c.loop-part.rest.now = ap₂ (λ (a b : List ℕ). a ++ b) c.split_at.ensures.front c.split_at.ensures.back
    ∙ take-append-drop _ c.loop-part.rest.now in
    let same : first ≡ part = search rules in
    c.loop-part.invariant (at_drop_more flat parts k part (omega arith) ∙ ap (λ (b : List ℕ). b ++ rest) (sym c.part-item.is)
    ∙ ap₂ (λ (a b : List ℕ). a ++ b) (sym same) left ∙ whole)

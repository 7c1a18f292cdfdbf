-- The front of the key has as many bytes as are compared with it.
use Rattle.std.proofs.Common.{◌≡◌, ℕ, List, ◌++◌, length, ap, ap₂, arith, subst, sym, ◌∙◌}
use Rattle.std.proofs.lemmas.List.{take-append-drop}
use Rattle.std.specs.Ordering.{nat_cmp}
use Rattle.std.specs.Cmp.Lexicographic.{slice_cmp}
use Rattle.std.specs.declared.cmp.Ordering.{Ordering}
use Rattle.ciel_memo_key.specs.Against.{taken}
use Rattle.ciel_memo_key.proofs.Taking.{settled, taken_within, within_differs, within_same}
use Rattle.ciel_memo_key.proofs.against.within.Goals as goal

taken_front : (key bs head rest : List ℕ) → head ++ rest ≡ key → length bs ≡ length head
    → taken (record { rest = key; found = Ordering.Equal }) bs ≡ settled (slice_cmp nat_cmp bs head) rest
taken_front key bs head rest cut same =
    subst (λ (ks : List ℕ). taken (record { rest = ks; found = Ordering.Equal }) bs ≡ settled (slice_cmp nat_cmp bs head) rest) cut
    (taken_within bs head rest same)

pub returns-then-is_ne : goal.returns-then-is_ne
returns-then-is_ne c =
    let key : List ℕ = c.args.key.now in
    let bs : List ℕ = c.args.bytes.now in
    let head : List ℕ = c.split_at.result.0.now in
    let rest : List ℕ = c.split_at.result.1.now in
    let cut : head ++ rest ≡ key = ap₂ (λ (x y : List ℕ). x ++ y) c.split_at.ensures.front c.split_at.ensures.back ∙ take-append-drop (length bs) key in
    let long = c.split_at.ensures.front_len in
    sym (taken_front key bs head rest cut (sym long)
    ∙ (ap (λ o. settled o rest) (sym c.cmp-found.ensures)
    ∙ within_differs c.cmp-found.result rest (sym c.is_ne.ensures ∙ c.if-is_ne.true)))

pub returns : goal.returns
returns c =
    let key : List ℕ = c.args.key.now in
    let bs : List ℕ = c.args.bytes.now in
    let head : List ℕ = c.split_at.result.0.now in
    let rest : List ℕ = c.split_at.result.1.now in
    let cut : head ++ rest ≡ key = ap₂ (λ (x y : List ℕ). x ++ y) c.split_at.ensures.front c.split_at.ensures.back ∙ take-append-drop (length bs) key in
    let long = c.split_at.ensures.front_len in
    sym (taken_front key bs head rest cut (sym long)
    ∙ (ap (λ o. settled o rest) (sym c.cmp-found.ensures)
    ∙ within_same c.cmp-found.result rest (sym c.is_ne.ensures ∙ c.if-is_ne.false)))

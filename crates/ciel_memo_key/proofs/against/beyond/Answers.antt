-- The bytes have a front that is as long as the key, and more behind it.
use Rattle.std.proofs.Common.{◌≡◌, ◌<◌, ℕ, List, ◌++◌, length, ap, ap₂, arith, subst, sym, ◌∙◌}
use Rattle.std.proofs.lemmas.List.{take-append-drop}
use Rattle.std.specs.Ordering.{nat_cmp}
use Rattle.std.specs.Cmp.Lexicographic.{slice_cmp}
use Rattle.std.specs.declared.cmp.Ordering.{Ordering}
use Rattle.ciel_memo_key.specs.Against.{taken}
use Rattle.ciel_memo_key.proofs.Taking.{beyond_differs, beyond_same, settled_beyond, taken_beyond}
use Rattle.ciel_memo_key.proofs.against.beyond.Goals as goal

taken_all : (key bs front more : List ℕ) → front ++ more ≡ bs → length front ≡ length key → 0 < length more
    → taken (record { rest = key; found = Ordering.Equal }) bs ≡ settled_beyond (slice_cmp nat_cmp front key)
taken_all key bs front more cut same some =
    subst (λ (xs : List ℕ). taken (record { rest = key; found = Ordering.Equal }) xs ≡ settled_beyond (slice_cmp nat_cmp front key)) cut
    (taken_beyond front more key same some)

pub returns-then-is_ne : goal.returns-then-is_ne
returns-then-is_ne c =
    let key : List ℕ = c.args.key.now in
    let bs : List ℕ = c.args.bytes.now in
    let front : List ℕ = c.split_at.result.0.now in
    let more : List ℕ = c.split_at.result.1.now in
    let cut : front ++ more ≡ bs = ap₂ (λ (x y : List ℕ). x ++ y) c.split_at.ensures.front c.split_at.ensures.back ∙ take-append-drop (length key) bs in
    let long = c.split_at.ensures.front_len in
    let left = c.split_at.ensures.back_len in
    let longer = c.requires in
    sym (taken_all key bs front more cut long (omega (arith, left, longer))
    ∙ (ap settled_beyond (sym c.cmp-found.ensures)
    ∙ beyond_differs c.cmp-found.result (sym c.is_ne.ensures ∙ c.if-is_ne.true)))

pub returns : goal.returns
returns c =
    let key : List ℕ = c.args.key.now in
    let bs : List ℕ = c.args.bytes.now in
    let front : List ℕ = c.split_at.result.0.now in
    let more : List ℕ = c.split_at.result.1.now in
    let cut : front ++ more ≡ bs = ap₂ (λ (x y : List ℕ). x ++ y) c.split_at.ensures.front c.split_at.ensures.back ∙ take-append-drop (length key) bs in
    let long = c.split_at.ensures.front_len in
    let left = c.split_at.ensures.back_len in
    let longer = c.requires in
    sym (taken_all key bs front more cut long (omega (arith, left, longer))
    ∙ (ap settled_beyond (sym c.cmp-found.ensures)
    ∙ beyond_same c.cmp-found.result (sym c.is_ne.ensures ∙ c.if-is_ne.false)))

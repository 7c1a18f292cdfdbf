-- Where lines end in bytes.
use Rattle.std.proofs.Common.{◌≡◌, ◌≢◌, ℕ, zero, suc, ◌+◌, ◌<◌, Bool, true, false, cond, List, [], ◌∷◌, length, take, slice_index, refl, ap, ◌∙◌}
use Rattle.std.proofs.Common.{arith}
use Rattle.std.specs.Prelude.{not, count_by}
use Rattle.std.proofs.lemmas.Bool.{eq-eqb, ne_eqb}
use Rattle.std.proofs.lemmas.List.Sums.{sum_by-cons}
use Rattle.line_kit.specs.Lines.{is_feed, lines, with_byte, is_open}

pub line_to_feed : (xs : List ℕ) (j : ℕ) → j < length xs → slice_index xs j ≡ 10 → ((k : ℕ) → k < j → slice_index xs k ≢ 10)
    → lines (take (suc j) xs) ≡ take j xs ∷ []
line_to_feed [] j below here clean = absurd (omega arith)
line_to_feed (x ∷ xs) zero below here clean = rw (eq-eqb x 10 here) refl
line_to_feed (x ∷ xs) (suc j) below here clean =
    rw (ne_eqb x 10 (clean 0 (omega arith))) (ap (with_byte x) (line_to_feed xs j (omega arith) here (λ k l. clean (suc k) (omega arith))))

pub closed_to_feed : (xs : List ℕ) (j : ℕ) → j < length xs → slice_index xs j ≡ 10 → is_open (take (suc j) xs) ≡ false
closed_to_feed [] j below here = absurd (omega arith)
closed_to_feed (x ∷ xs) zero below here = ap not (eq-eqb x 10 here)
closed_to_feed (x ∷ []) (suc j) below here = absurd (omega arith)
closed_to_feed (x ∷ y ∷ ys) (suc j) below here = closed_to_feed (y ∷ ys) j (omega arith) here

none_by : (b : Bool) (n : ℕ) → (b ≡ true → ⊥) → n ≡ 0 → cond b 1 0 + n ≡ 0
none_by true n h e = absurd (h refl)
none_by false n h e = omega (arith, e)

pub no_feeds : (xs : List ℕ) → ((k : ℕ) → k < length xs → is_feed (slice_index xs k) ≡ true → ⊥) → count_by is_feed xs ≡ 0
no_feeds [] h = refl
no_feeds (x ∷ xs) h =
    sum_by-cons (λ y. cond (is_feed y) 1 0) x xs
    ∙ none_by (is_feed x) (count_by is_feed xs) (h 0 (omega arith)) (no_feeds xs (λ k l. h (suc k) (omega arith)))

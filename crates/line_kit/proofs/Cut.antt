-- The first line, cut off.
use Rattle.std.proofs.Common.{◌≡◌, ◌≢◌, ℕ, zero, suc, ◌<◌, false, ◌==◌, List, [], ◌∷◌, length, take, drop, slice_index, arith}
use Rattle.std.proofs.lemmas.Bool.{eq-eqb, ne_eqb}
use Rattle.line_kit.specs.Lines.{lines}

pub lines_cut : (xs : List ℕ) (j : ℕ) → j < length xs → slice_index xs j ≡ 10 → ((k : ℕ) → k < j → slice_index xs k ≢ 10) → lines xs ≡ take j xs
    ∷ lines (drop (suc j) xs)
lines_cut [] j below here clean = absurd (omega arith)
lines_cut (x ∷ xs) zero below here clean = rw (eq-eqb x 10 here)
lines_cut (x ∷ xs) (suc j) below here clean =
    let other : (x == 10) ≡ false = ne_eqb x 10 (clean 0 (omega arith)) in
    rw (other, lines_cut xs j (omega arith) here (λ k l. clean (suc k) (omega arith)))

pub lines_last : (x : ℕ) (xs : List ℕ) → ((k : ℕ) → k < length (x ∷ xs) → slice_index (x ∷ xs) k ≢ 10) → lines (x ∷ xs) ≡ (x ∷ xs) ∷ []
lines_last x [] clean = rw (ne_eqb x 10 (clean 0 (omega arith)))
lines_last x (y ∷ ys) clean =
    rw (ne_eqb x 10 (clean 0 (omega arith)), lines_last y ys (λ k l. clean (suc k) (omega arith)))

pub lines_whole : (xs : List ℕ) → 0 < length xs → ((k : ℕ) → k < length xs → slice_index xs k ≢ 10) → lines xs ≡ xs ∷ []
lines_whole [] some clean = absurd (omega arith)
lines_whole (x ∷ xs) some clean = lines_last x xs clean

-- At the start each word is 0.
use Rattle.std.proofs.Common.{◌≡◌, ℕ, zero, suc, List, [], length, get_or, sym, refl, ap, ◌∙◌, subst}
use Rattle.std.specs.Prelude.{replicate}
use Rattle.std.proofs.lemmas.List.{length-replicate}
use Rattle.atomic_table.specs.Table.{opening}
use Rattle.ciel_store.specs.Words.{Kept, marker}
use Rattle.ciel_store.proofs.WordSteps.{opens}

zeros : (n w : ℕ) → get_or (replicate {A = ℕ} n 0) w 0 ≡ 0
zeros zero w = refl
zeros (suc n) zero = refl
zeros (suc n) (suc w) = zeros n w

pub opens_zeros : {S : Type 0} (k n : ℕ) (words : List ℕ) → words ≡ replicate n 0 → k ≡ n → Kept {S = S} k (opening words [] (marker [] []))
opens_zeros {S = S} k n words e kn =
    let z : (w : ℕ) → get_or words w 0 ≡ 0 = subst (λ (l : List ℕ). (w : ℕ) → get_or l w 0 ≡ 0) (sym e) (zeros n) in
    let len : length words ≡ k = ap length e ∙ (length-replicate n 0 ∙ sym kn) in
    subst (λ (x : ℕ). Kept {S = S} x (opening words [] (marker [] []))) len (opens words z)

-- The first input of a name.
use Rattle.std.proofs.Common.{◌≡◌, ◌≤◌, ◌<◌, ℕ, zero, suc, ◌+◌, List, [], ◌∷◌, length, drop, true, false, slice_index_or, refl, sym, ap, ◌∙◌, arith}
use Rattle.sky_base.specs.Val.{same_text}
use Rattle.sky_base.specs.See.{input_bytes, input_bytes_if}

abbrev Given : Type 0
Given = List ℕ × List ℕ

suc_is : (i : ℕ) → suc i ≡ i + 1
suc_is i = omega arith

pub input-here : (k : List ℕ) (xs : List Given) (i : ℕ) (x : Given) → i < length xs → x ≡ slice_index_or xs i x → same_text k x.0 ≡ true
    → input_bytes k (drop i xs) ≡ x.1
input-here k [] i x h e t = absurd (omega (arith, h))
input-here k (y ∷ xs) zero x h e t =
    ap (λ z. input_bytes_if (same_text k z.0) z.1 (input_bytes k xs)) (sym e) ∙ ap (λ b. input_bytes_if b x.1 (input_bytes k xs)) t
input-here k (y ∷ xs) (suc i) x h e t = input-here k xs i x (omega (arith, h)) e t

step_suc : (k : List ℕ) (xs : List Given) (i : ℕ) (x : Given) → i < length xs → x ≡ slice_index_or xs i x → same_text k x.0 ≡ false
    → input_bytes k (drop i xs) ≡ input_bytes k (drop (suc i) xs)
step_suc k [] i x h e t = absurd (omega (arith, h))
step_suc k (y ∷ xs) zero x h e t =
    ap (λ z. input_bytes_if (same_text k z.0) z.1 (input_bytes k xs)) (sym e) ∙ ap (λ b. input_bytes_if b x.1 (input_bytes k xs)) t
step_suc k (y ∷ xs) (suc i) x h e t = step_suc k xs i x (omega (arith, h)) e t

pub input-step : (k : List ℕ) (xs : List Given) (i : ℕ) (x : Given) → i < length xs → x ≡ slice_index_or xs i x → same_text k x.0 ≡ false
    → input_bytes k (drop i xs) ≡ input_bytes k (drop (i + 1) xs)
input-step k xs i x h e t = step_suc k xs i x h e t ∙ ap (λ j. input_bytes k (drop j xs)) (suc_is i)

pub input-done : (k : List ℕ) (xs : List Given) (i : ℕ) → length xs ≤ i → input_bytes k (drop i xs) ≡ []
input-done k [] zero h = refl
input-done k [] (suc i) h = refl
input-done k (x ∷ xs) zero h = absurd (omega (arith, h))
input-done k (x ∷ xs) (suc i) h = input-done k xs i (omega (arith, h))

pub ruleset inputs = (input-here, input-step, input-done)

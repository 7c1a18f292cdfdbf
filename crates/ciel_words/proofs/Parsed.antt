-- What `parse` reads of a number.
use Rattle.std.proofs.Common.{◌≡◌, ℕ, ◌<◌, ◌^◌, Bool, true, false, ◌&&◌, cond, nat_le, nat_lt, List, [], ◌∷◌, length, Some, None, Result, Ok, Err}
use Rattle.std.proofs.Common.{refl, sym, ap, subst, ◌∙◌, arith, ⊎_elim}
use Rattle.std.proofs.lemmas.Bool.{cases_Bool}
use Rattle.std.proofs.lemmas.Bool.Decides.{nat_tests}
use Rattle.std.proofs.lemmas.Str.Parse.{numerals_by_value, tells_all_ascii_digits, parse_digits}
use Rattle.std.specs.Char.{is_ascii_digit}
use Rattle.std.specs.List.{list_all}
use Rattle.std.specs.Result.{OkIff}
use Rattle.std.specs.Str.{all_ascii_digits}
use Rattle.std.specs.Str.Parse.{ParsesUnsigned, digits_value}
use Rattle.ciel_words.specs.Values.{is_number, number_within}

same_test : (ds : List ℕ) → list_all is_ascii_digit ds ≡ all_ascii_digits ds
same_test [] = refl
same_test (d ∷ ds) = ap (λ b. is_ascii_digit d && b) (same_test ds)

last : (a b c : Bool) → (a && b && c) ≡ true → c ≡ true
last true true c e = e
last true false c e = absurd (let bad : false ≡ true = e in cc)
last false b c e = absurd (let bad : false ≡ true = e in cc)

reads : {E : Type 0} (t : List ℕ) (r : Result ℕ E) → is_number t ≡ true → ParsesUnsigned 64 10 t r
    → OkIff r ((0 < length t) × (digits_value 10 t < 2 ^ 64)) (digits_value 10 t)
reads t r e h =
    let digits : all_ascii_digits t ≡ true = sym (same_test t) ∙ last (nat_le 1 (length t)) (nat_le (length t) 20) (list_all is_ascii_digit t) e in
    parse_digits (numerals_by_value (λ ds. all_ascii_digits ds ≡ true) tells_all_ascii_digits) 64 t r h digits

some : (t : List ℕ) → is_number t ≡ true → 0 < length t
some [] e = absurd (let bad : false ≡ true = e in cc)
some (d ∷ ds) e = omega arith

pub parsed : {E : Type 0} (t : List ℕ) (r : Result ℕ E) (n : ℕ) → is_number t ≡ true → ParsesUnsigned 64 10 t r → r ≡ Ok n → n ≡ digits_value 10 t
parsed t r n e h is = (subst (λ (x : Result ℕ _). OkIff x ((0 < length t) × (digits_value 10 t < 2 ^ 64)) (digits_value 10 t)) is (reads t r e h)).1

cut : (a b c : Bool) (n : ℕ) → c ≡ false → cond (a && b && c) (Some n) None ≡ None
cut true true c n e = rw e refl
cut true false c n e = refl
cut false b c n e = refl

beyond : (v high : ℕ) → high < 2 ^ 64 → (v < 2 ^ 64 → ⊥) → high < v
beyond v high small none = ⊎_elim
    (λ t. absurd (none (grind (arith, nat_tests))))
    (λ f. grind (arith, nat_tests))
    (cases_Bool (nat_lt v (2 ^ 64)))

-- a number that has no 64 bits isn't within any bound that has
pub not_parsed : {E : Type 0} (low high : ℕ) (t : List ℕ) (r : Result ℕ E) (x : E) → is_number t ≡ true → high < 2 ^ 64
    → ParsesUnsigned 64 10 t r → r ≡ Err x
    → number_within low high t ≡ None
not_parsed low high t r x e small h is =
    let none = subst (λ (y : Result ℕ _). OkIff y ((0 < length t) × (digits_value 10 t < 2 ^ 64)) (digits_value 10 t)) is (reads t r e h) in
    let far : high < digits_value 10 t = beyond (digits_value 10 t) high small (λ below. none (some t e, below)) in
    cut (is_number t) (nat_le low (digits_value 10 t)) (nat_le (digits_value 10 t) high) (digits_value 10 t) (grind (arith, nat_tests))

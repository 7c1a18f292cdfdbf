-- Decimal digits and the tests of a token's bytes.
use Rattle.std.proofs.Common.{◌≡◌, ℕ, suc, ◌+◌, ◌-◌, ◌≤◌, ◌<◌, Bool, true, false, List, [], ◌∷◌, length, map, refl, sym, ap, ◌∙◌, arith}
use Rattle.std.specs.Prelude.{◌==◌, ◌&&◌}
use Rattle.std.specs.Char.{is_ascii_digit}
use Rattle.std.specs.Int.Digits.{AllBelowBase, digits_of, number_from_digits}
use Rattle.std.specs.List.{list_all}
use Rattle.std.proofs.lemmas.Bool.{cond_both, eqb-true}
use Rattle.std.proofs.lemmas.Bool.Decides.{nat_tests}
use Rattle.std.proofs.lemmas.Int.Digits.{all_below_base_digits_of, length-digits_of_step, number_digits_of}
use Rattle.sky_text.specs.Lexing.{begins_name, goes_on_name, number_of}
use Rattle.sky_text.specs.Spelling.{decimal}

pub both : (a b : Bool) → (a && b) ≡ true → (a ≡ true) × (b ≡ true)
both true true h = (refl, refl)
both true false h = absurd (cc h)
both false b h = absurd (cc h)

pub name_goes_on : (b : ℕ) (q : List ℕ) → begins_name b ≡ true → list_all goes_on_name q ≡ true → list_all goes_on_name (b ∷ q) ≡ true
name_goes_on b q h g = rw (h, g) refl

eqb_positive : (n : ℕ) → (n == 0) ≡ false → 0 < n
eqb_positive n h = grind (arith, nat_tests)

shown_digits : (ds : List ℕ) → AllBelowBase 10 ds → list_all is_ascii_digit (map (λ d. d + 48) ds) ≡ true
shown_digits [] h = refl
shown_digits (d ∷ ds) h = let digit : is_ascii_digit (d + 48) ≡ true = let small = h.0 in grind (arith, nat_tests) in
    rw (digit, shown_digits ds h.1) refl

read_digits : (ds : List ℕ) → map (λ d. d - 48) (map (λ d. d + 48) ds) ≡ ds
read_digits [] = refl
read_digits (d ∷ ds) = let e : d + 48 - 48 ≡ d = omega arith in rw (e, read_digits ds) refl

length_shown : (ds : List ℕ) → length (map (λ d. d + 48) ds) ≡ length ds
length_shown [] = refl
length_shown (d ∷ ds) = ap suc (length_shown ds)

pub decimal_digits : (n : ℕ) → list_all is_ascii_digit (decimal n) ≡ true
decimal_digits n = cond_both (n == 0) (48 ∷ []) (map (λ d. d + 48) (digits_of 10 n)) (λ x. list_all is_ascii_digit x ≡ true) (λ _. refl)
    (λ _. shown_digits (digits_of 10 n) (all_below_base_digits_of 10 n (omega arith)))

pub decimal_value : (n : ℕ) → number_of (decimal n) ≡ n
decimal_value n = cond_both (n == 0) (48 ∷ []) (map (λ d. d + 48) (digits_of 10 n)) (λ x. number_of x ≡ n) (λ t. sym (eqb-true n 0 t))
    (λ _. ap (number_from_digits 10) (read_digits (digits_of 10 n)) ∙ number_digits_of 10 n (omega arith))

pub decimal_some : (n : ℕ) → 1 ≤ length (decimal n)
decimal_some n = cond_both (n == 0) (48 ∷ []) (map (λ d. d + 48) (digits_of 10 n)) (λ x. 1 ≤ length x) (λ _. omega arith)
    (λ f. let more : 0 < n = eqb_positive n f in omega (arith, length_shown (digits_of 10 n), length-digits_of_step 10 n (omega arith) more))

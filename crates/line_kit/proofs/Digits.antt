-- Numbers read digit by digit.
use Rattle.std.proofs.Common.{◌≡◌, ℕ, zero, suc, ◌||◌, ◌&&◌, nat_lt, nat_le, Bool, true, false, cond, Some, None, ◌+◌, ◌-◌, ◌*◌, ◌<◌, ◌≤◌, List, []}
use Rattle.std.proofs.Common.{◌∷◌, length, take, drop, ◌^◌, get_or, refl, sym, ap, ◌∙◌, arith}
use Rattle.std.proofs.lemmas.List.{drop_more}
use Rattle.std.proofs.lemmas.Str.{digit_value_digit}
use Rattle.std.specs.Char.{is_ascii_digit, digit_value}
use Rattle.std.specs.Int.{IsInRange}
use Rattle.std.specs.Str.Parse.{digits_value, digits_value_after}
use Rattle.std.specs.Prelude.{not, ◌==◌}
use Rattle.std.specs.Option.{option_map}
use Rattle.std.specs.List.{list_all, list_any, position_or_len}
use Rattle.std.proofs.lemmas.Bool.Decides.{nat_tests}
use Rattle.line_kit.proofs.Truth.{and_both}
use Rattle.line_kit.specs.Numbers.{number_up_to, is_digits, is_space, counted}

all_at : (p : ℕ → Bool) (xs : List ℕ) (i d : ℕ) → list_all p xs ≡ true → i < length xs → p (get_or xs i d) ≡ true
all_at p [] i d e h = absurd (omega arith)
all_at p (x ∷ xs) zero d e h = (and_both (p x) (list_all p xs) e).0
all_at p (x ∷ xs) (suc i) d e h = all_at p xs i d (and_both (p x) (list_all p xs) e).1 (omega arith)

digit_is : (c : ℕ) → is_ascii_digit c ≡ true → digit_value c ≡ c - 48
digit_is c e = let range : IsInRange 48 57 c = grind (arith, nat_tests) in omega (arith, digit_value_digit c range, range)

pub value_step : (n : ℕ) (digits : List ℕ) (i : ℕ) → is_digits digits ≡ true → i < length digits
    → digits_value_after 10 n (drop i digits) ≡ digits_value_after 10 (n * 10 + (get_or digits i 0 - 48)) (drop (i + 1) digits)
value_step n digits i e h =
    let digit = all_at is_ascii_digit digits i 0 (and_both (not (length digits == 0)) (list_all is_ascii_digit digits) e).1 h in
    ap (digits_value_after 10 n) (drop_more digits i 0 h)
    ∙ ap (λ d. digits_value_after 10 (n * 10 + d) (drop (i + 1) digits)) (digit_is (get_or digits i 0) digit)

pub value_grows : (n : ℕ) (digits : List ℕ) → n ≤ digits_value_after 10 n digits
value_grows n [] = omega arith
value_grows n (d ∷ ds) = omega (arith, value_grows (n * 10 + digit_value d) ds)

cut : (a b : Bool) (n : ℕ) → b ≡ false → cond (a && b) (Some n) None ≡ None
cut true b n e = rw e refl
cut false b n e = refl

-- a number above the greatest is none
pub number_none : (most : ℕ) (digits : List ℕ) → most < digits_value 10 digits → number_up_to most digits ≡ None
number_none most digits h = cut (is_digits digits) (nat_le (digits_value 10 digits) most) (digits_value 10 digits) (grind (arith, nat_tests))

any_step : (p : ℕ → Bool) (x : ℕ) (xs : List ℕ) (b : Bool) → list_any p xs ≡ nat_lt (position_or_len p xs) (length xs)
    → (b || list_any p xs) ≡ nat_lt (cond (not b) (1 + position_or_len p xs) 0) (suc (length xs))
any_step p x xs true h = grind (arith, nat_tests)
any_step p x xs false h = h ∙ grind (arith, nat_tests)

-- what stands in front of the first space, where there is one
pub any_position : (p : ℕ → Bool) (xs : List ℕ) → list_any p xs ≡ nat_lt (position_or_len p xs) (length xs)
any_position p [] = refl
any_position p (x ∷ xs) = any_step p x xs (p x) (any_position p xs)

pub counted_none : (line : List ℕ) (end : ℕ) → end ≡ position_or_len is_space line → end ≡ length line → counted line ≡ None
counted_none line end e f =
    let past : list_any is_space line ≡ false = any_position is_space line ∙ grind (arith, nat_tests) in
    rw past refl

pub counted_some : (line : List ℕ) (end n : ℕ) → end ≡ position_or_len is_space line → end < length line
    → number_up_to (2 ^ 63 - 1) (take end line) ≡ Some n → counted line ≡ Some (drop (end + 1) line, n)
counted_some line end n e f read =
    let there : list_any is_space line ≡ true = any_position is_space line ∙ grind (arith, nat_tests) in
    rw there (ap (λ i. option_map (λ m. (drop (i + 1) line, m)) (number_up_to (2 ^ 63 - 1) (take i line))) (sym e)
    ∙ ap (option_map (λ m. (drop (end + 1) line, m))) read)

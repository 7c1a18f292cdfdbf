-- The parts of a token: names are ASCII, and what is left of a number or a text gives the rest of it.
use Rattle.std.proofs.Common.{◌≡◌, ℕ, ◌+◌, ◌-◌, ◌*◌, ◌<◌, Bool, true, false, List, [], ◌∷◌, ◌++◌, length, take, drop, get_or, map, Result, Ok, Err}
use Rattle.std.proofs.Common.{refl, sym, ap, ◌∙◌, inl, inr, arith, append_assoc}
use Rattle.std.specs.Prelude.{◌==◌}
use Rattle.std.specs.Int.Digits.{number_from_digits_after}
use Rattle.std.specs.List.{AllPass, prefix_len}
use Rattle.std.specs.Str.{IsAscii}
use Rattle.std.proofs.lemmas.Bool.{cases_lt, eqb-true, false_from_ne_true, lt-ltb}
use Rattle.std.proofs.lemmas.Bool.Decides.{nat_tests}
use Rattle.std.proofs.lemmas.Int.Digits.{number_after_ge}
use Rattle.std.proofs.lemmas.List.{drop_more, get_or-take, get_or_past}
use Rattle.std.proofs.lemmas.List.Folds.{length-prefix_len}
use Rattle.std.proofs.lemmas.List.Sums.{prefix_len_passes}
use Rattle.sky_text.specs.Lexing.{and_then, goes_on_name, is_escape, number, text_from, unescaped, with_byte}
use Rattle.sky_text.specs.declared.lex.LexRefusal.{LexRefusal}

-- Names.

pub name_byte_ascii : (b : ℕ) → goes_on_name b ≡ true → b < 128
name_byte_ascii b h = grind (arith, nat_tests)

pub name_ascii : (bs : List ℕ) → AllPass goes_on_name bs → IsAscii bs
name_ascii bs h i = elim (cases_lt i (length bs))
    [ inl lt ↦ name_byte_ascii (get_or bs i 0) (h i 0 lt) | inr ge ↦ omega (arith, get_or_past bs i 0 ge) ]

-- what stands first and passes a test passes it
pub pass_while : (p : ℕ → Bool) (bs : List ℕ) → AllPass p (take (prefix_len p bs) bs)
pass_while p bs k d h =
    let short : k < prefix_len p bs = omega (arith, length-prefix_len p bs) in
    rw (get_or-take (prefix_len p bs) bs k d short) (prefix_len_passes p bs k d short)

-- Numbers.

-- the number of digits behind others that have this value
abbrev pub number_past : ℕ → List ℕ → ℕ
number_past value digits = number_from_digits_after 10 value (map (λ d. d - 48) digits)

pub number_step : (value : ℕ) (digits : List ℕ) (i : ℕ) → i < length digits → number_past value (drop i digits)
    ≡ number_past (value * 10 + (get_or digits i 0 - 48)) (drop (i + 1) digits)
number_step value digits i h = ap (number_past value) (drop_more digits i 0 h)

pub number_too_big : (at value : ℕ) (digits : List ℕ) (n : ℕ) → number_past value digits ≡ n → 9223372036854775807 < value → number at n
    ≡ Err (LexRefusal.BigNumber at)
number_too_big at value digits n e h =
    let big : 9223372036854775807 < n = omega (arith, e, number_after_ge 10 value (map (λ d. d - 48) digits) (omega arith)) in
    rw (lt-ltb 9223372036854775807 n big) refl

-- Texts.

-- what was read of a text before, in front of the rest
abbrev pub with_front : List ℕ → List ℕ × ℕ → Result (List ℕ × ℕ) LexRefusal
with_front front text = Ok (front ++ text.0, text.1)

with_front_more : (front : List ℕ) (b : ℕ) (read : Result (List ℕ × ℕ) LexRefusal) → and_then (and_then read (with_byte b)) (with_front front)
    ≡ and_then read (with_front (front ++ b ∷ []))
with_front_more front b (Ok text) = ap (λ (x : List ℕ). Ok (x, text.1)) (sym (append_assoc front (b ∷ []) text.0))
with_front_more front b (Err e) = refl

not_equal : (a b : ℕ) → (a ≡ b → ⊥) → (a == b) ≡ false
not_equal a b h = false_from_ne_true (a == b) (λ e. h (eqb-true a b e))

pub text_plain : (quote at b : ℕ) (r : List ℕ) → (b ≡ 34 → ⊥) → (b ≡ 10 → ⊥) → (b ≡ 92 → ⊥) → text_from quote at (b ∷ r)
    ≡ and_then (text_from quote (at + 1) r) (with_byte b)
text_plain quote at b [] h g k = let x = not_equal b 34 h in rw x refl
text_plain quote at b (c ∷ r) h g k = let x = not_equal b 34 h in let y = not_equal b 10 g in let z = not_equal b 92 k in rw (x, y, z) refl

text_escape : (quote at b c : ℕ) (r : List ℕ) → b ≡ 92 → (c ≡ 10 → ⊥) → is_escape c ≡ true → text_from quote at (b ∷ c ∷ r)
    ≡ and_then (text_from quote (at + 2) r) (with_byte (unescaped c))
text_escape quote at b c r e h g = let k = not_equal c 10 h in rw e (rw (k, g) refl)

pub front_plain : (quote at b : ℕ) (r rest front : List ℕ) (all : Result (List ℕ × ℕ) LexRefusal) → rest ≡ b ∷ r → (b ≡ 34 → ⊥) → (b ≡ 10 → ⊥)
    → (b ≡ 92 → ⊥)
    → and_then (text_from quote at rest) (with_front front) ≡ all → and_then (text_from quote (at + 1) r) (with_front (front ++ b ∷ [])) ≡ all
front_plain quote at b r rest front all e h g k left =
    sym (with_front_more front b (text_from quote (at + 1) r))
    ∙ ap (λ (x : Result (List ℕ × ℕ) LexRefusal). and_then x (with_front front))
    (sym (text_plain quote at b r h g k) ∙ ap (text_from quote at) (sym e)) ∙ left

pub front_escape : (quote at b c : ℕ) (r rest front : List ℕ) (all : Result (List ℕ × ℕ) LexRefusal) → rest ≡ b ∷ c ∷ r → b ≡ 92 → (c ≡ 10 → ⊥)
    → is_escape c ≡ true
    → and_then (text_from quote at rest) (with_front front) ≡ all
    → and_then (text_from quote (at + 2) r) (with_front (front ++ unescaped c ∷ [])) ≡ all
front_escape quote at b c r rest front all e h g k left =
    sym (with_front_more front (unescaped c) (text_from quote (at + 2) r))
    ∙ ap (λ (x : Result (List ℕ × ℕ) LexRefusal). and_then x (with_front front))
    (sym (text_escape quote at b c r h g k) ∙ ap (text_from quote at) (sym e)) ∙ left

-- The strings and keys of JSON are UTF-8 where the text is.
use Rattle.std.proofs.Common.{◌≡◌, ℕ, ◌+◌, ◌*◌, ◌<◌, ◌≤◌, true, false, cond, ◌&&◌, ◌||◌, List, [], ◌∷◌, ◌++◌, Option, Some, None, option_and_then}
use Rattle.std.proofs.Common.{IsUtf8, nat_lt, refl, sym, subst, arith, append_assoc, append-nil}
use Rattle.std.specs.Prelude.{◌==◌}
use Rattle.std.specs.Char.{IsScalar, digit_value, is_digit, encode_utf8}
use Rattle.std.proofs.lemmas.Bool.{cond_both, eqb-true}
use Rattle.std.proofs.lemmas.Bool.Decides.{nat_tests}
use Rattle.std.proofs.lemmas.Str.{IsUtf8-append, IsUtf8-encode}
use Rattle.json.specs.Text.{plain, after_backslash, after_u, after_high, content, code_unit, short_escape, is_high_surrogate, is_low_surrogate}
use Rattle.json.specs.Text.{surrogate_pair, prepend}
use Rattle.sky_text.proofs.Decimal.{both}
use Rattle.sky_text.proofs.TextUtf8.{before_ascii, after_ascii, ascii_utf8}

-- what is read behind text is text with it
abbrev pub Behind : List ℕ → Option (List ℕ) → Type 0
Behind front None = Unit {0}
Behind front (Some s) = IsUtf8 (front ++ s)

prepended : (front bytes : List ℕ) (o : Option (List ℕ)) → Behind (front ++ bytes) o → Behind front (prepend bytes o)
prepended front bytes None h = tt
prepended front bytes (Some s) h = subst IsUtf8 (append_assoc front bytes s) h

-- ---- escapes

short_ascii : (x c : ℕ) → short_escape x ≡ Some c → (x < 128) × (c < 128)
unfolding short_escape
short_ascii x c e =
    let Goal : Option ℕ → Type 0 = λ o. o ≡ Some c → (x < 128) × (c < 128) in
    let is : (y d : ℕ) → (x == y) ≡ true → y < 128 → d < 128 → Some d ≡ Some c → (x < 128) × (c < 128) = λ y d t small low k. let same : d ≡ c =
    cc in let at : x ≡ y = eqb-true x y t in (omega (arith, at), omega (arith, same)) in
    cond_both ((x == 34) || (x == 92) || (x == 47)) (Some x) _ Goal
    (λ t k. let same : x ≡ c = cc in let low : x < 128 = grind (arith, nat_tests) in (low, omega (arith, same))) (λ _.
    cond_both (x == 98) _ _ Goal (λ t k. is 98 8 t (omega arith) (omega arith) k) (λ _.
    cond_both (x == 102) _ _ Goal (λ t k. is 102 12 t (omega arith) (omega arith) k) (λ _.
    cond_both (x == 110) _ _ Goal (λ t k. is 110 10 t (omega arith) (omega arith) k) (λ _.
    cond_both (x == 114) _ _ Goal (λ t k. is 114 13 t (omega arith) (omega arith) k) (λ _.
    cond_both (x == 116) _ _ Goal (λ t k. is 116 9 t (omega arith) (omega arith) k) (λ _ k. absurd (cc k))))))) e

-- a hexadecimal digit is ASCII
hex_ascii : (c : ℕ) → is_digit c 16 ≡ true → (c < 128) × (digit_value c < 16)
hex_ascii c h = (grind (arith, nat_tests), grind (arith, nat_tests))

record Unit16 (a b c d n : ℕ) : Type 0 where
  first : a < 128
  second : b < 128
  third : c < 128
  fourth : d < 128
  small : n < 65536

unit_small : (a b c d n : ℕ) → code_unit a b c d ≡ Some n → Unit16 a b c d n
unfolding code_unit
unit_small a b c d n e =
    cond_both (is_digit a 16 && is_digit b 16 && is_digit c 16 && is_digit d 16)
    (Some (digit_value a * 4096 + digit_value b * 256 + digit_value c * 16 + digit_value d)) None (λ o. o ≡ Some n → Unit16 a b c d n)
    (λ t k.
    let three = both (is_digit a 16 && is_digit b 16 && is_digit c 16) (is_digit d 16) t in
    let two = both (is_digit a 16 && is_digit b 16) (is_digit c 16) three.0 in
    let one = both (is_digit a 16) (is_digit b 16) two.0 in
    let x = hex_ascii a one.0 in
    let y = hex_ascii b one.1 in
    let z = hex_ascii c two.1 in
    let v = hex_ascii d three.1 in
    let same : digit_value a * 4096 + digit_value b * 256 + digit_value c * 16 + digit_value d ≡ n = cc in
    record { first = x.0; second = y.0; third = z.0; fourth = v.0; small = omega (arith, same, x.1, y.1, z.1, v.1) }) (λ _ k. absurd (cc k)) e

four_off : (a b c d : ℕ) (xs : List ℕ) → a < 128 → b < 128 → c < 128 → d < 128 → IsUtf8 (a ∷ b ∷ c ∷ d ∷ xs) → IsUtf8 xs
four_off a b c d xs i j k l u =
    after_ascii [] d xs (after_ascii [] c (d ∷ xs) (after_ascii [] b (c ∷ d ∷ xs) (after_ascii [] a (b ∷ c ∷ d ∷ xs) u i) j) k) l

scalar_below : (n : ℕ) → n < 65536 → is_high_surrogate n ≡ false → is_low_surrogate n ≡ false → IsScalar n
scalar_below n small high low = grind (arith, nat_tests)

high_range : (n : ℕ) → is_high_surrogate n ≡ true → (55296 ≤ n) × (n < 56320)
high_range n h = (grind (arith, nat_tests), grind (arith, nat_tests))

low_range : (n : ℕ) → is_low_surrogate n ≡ true → (56320 ≤ n) × (n < 57344)
low_range n h = (grind (arith, nat_tests), grind (arith, nat_tests))

scalar_from : (n : ℕ) → 57344 ≤ n → n < 1114112 → IsScalar n
scalar_from n le lt = grind (arith, nat_tests)

pair_scalar : (h l : ℕ) → (55296 ≤ h) × (h < 56320) → (56320 ≤ l) × (l < 57344) → IsScalar (surrogate_pair h l)
pair_scalar h l high low =
    scalar_from (surrogate_pair h l) (omega (arith, high.0, low.0)) (omega (arith, high.0, high.1, low.0, low.1))

-- ---- the content of a string

-- what follows an escape, where what is read further on is text
escape_utf8 : (x : ℕ) (xs front : List ℕ) (o : Option ℕ) → short_escape x ≡ o → IsUtf8 front → IsUtf8 (x ∷ xs)
    → ((c : ℕ) → IsUtf8 ((front ++ c ∷ []) ++ xs) → Behind (front ++ c ∷ []) (content plain xs))
    → Behind front (option_and_then (λ c. prepend (c ∷ []) (content plain xs)) o)
escape_utf8 x xs front None e u v more = tt
escape_utf8 x xs front (Some c) e u v more =
    let low = short_ascii x c e in
    prepended front (c ∷ []) (content plain xs)
    (more c (IsUtf8-append (front ++ c ∷ []) xs (IsUtf8-append front (c ∷ []) u (ascii_utf8 c low.1)) (after_ascii [] x xs v low.0)))

with_char : (n : ℕ) (xs front : List ℕ) → IsScalar n → IsUtf8 front → IsUtf8 xs
    → ((bytes : List ℕ) → IsUtf8 ((front ++ bytes) ++ xs) → Behind (front ++ bytes) (content plain xs))
    → Behind front (prepend (encode_utf8 n) (content plain xs))
with_char n xs front s u v more =
    prepended front (encode_utf8 n) (content plain xs)
    (more (encode_utf8 n) (IsUtf8-append (front ++ encode_utf8 n) xs (IsUtf8-append front (encode_utf8 n) u (IsUtf8-encode n s)) v))

unit_then : (a b c d : ℕ) (xs front : List ℕ) (o : Option ℕ) → code_unit a b c d ≡ o → IsUtf8 front → IsUtf8 (a ∷ b ∷ c ∷ d ∷ xs)
    → ((n : ℕ) → (55296 ≤ n) × (n < 56320) → IsUtf8 xs → Behind front (content (after_high n) xs))
    → ((bytes : List ℕ) → IsUtf8 ((front ++ bytes) ++ xs) → Behind (front ++ bytes) (content plain xs))
    → Behind front (option_and_then (λ n. cond (is_high_surrogate n) (content (after_high n) xs)
    (cond (is_low_surrogate n) None (prepend (encode_utf8 n) (content plain xs)))) o)
unit_then a b c d xs front None e u v high more = tt
unit_then a b c d xs front (Some n) e u v high more =
    let unit = unit_small a b c d n e in
    let rest : IsUtf8 xs = four_off a b c d xs unit.first unit.second unit.third unit.fourth v in
    cond_both (is_high_surrogate n) (content (after_high n) xs) _ (Behind front) (λ t. high n (high_range n t) rest) (λ f.
    cond_both (is_low_surrogate n) None (prepend (encode_utf8 n) (content plain xs)) (Behind front) (λ _. tt)
    (λ g. with_char n xs front (scalar_below n unit.small f g) u rest more))

pair_then : (h a b c d : ℕ) (xs front : List ℕ) (o : Option ℕ) → code_unit a b c d ≡ o → (55296 ≤ h) × (h < 56320) → IsUtf8 front
    → IsUtf8 (a ∷ b ∷ c ∷ d ∷ xs) → ((bytes : List ℕ) → IsUtf8 ((front ++ bytes) ++ xs) → Behind (front ++ bytes) (content plain xs))
    → Behind front (option_and_then (λ l. cond (is_low_surrogate l) (prepend (encode_utf8 (surrogate_pair h l)) (content plain xs)) None) o)
pair_then h a b c d xs front None e high u v more = tt
pair_then h a b c d xs front (Some l) e high u v more =
    let unit = unit_small a b c d l e in
    let rest : IsUtf8 xs = four_off a b c d xs unit.first unit.second unit.third unit.fourth v in
    cond_both (is_low_surrogate l) (prepend (encode_utf8 (surrogate_pair h l)) (content plain xs)) None (Behind front)
    (λ t. with_char (surrogate_pair h l) xs front (pair_scalar h l high (low_range l t)) u rest more) (λ _. tt)

mutual
  unfolding content

  pub content_utf8 : (xs front : List ℕ) → IsUtf8 (front ++ xs) → Behind front (content plain xs)
  content_utf8 [] front u = tt
  content_utf8 (x ∷ xs) front u =
      cond_both (x == 34) (Some []) _ (Behind front)
      (λ t. let is : x ≡ 34 = eqb-true x 34 t in subst IsUtf8 (sym (append-nil front)) (before_ascii front x xs u (omega (arith, is)))) (λ _.
      cond_both (x == 92) (content after_backslash xs) _ (Behind front)
      (λ t. let is : x ≡ 92 = eqb-true x 92 t in
      slash_utf8 xs front (before_ascii front x xs u (omega (arith, is))) (after_ascii front x xs u (omega (arith, is)))) (λ _.
      cond_both (nat_lt x 32) None (prepend (x ∷ []) (content plain xs)) (Behind front) (λ _. tt) (λ _.
      prepended front (x ∷ []) (content plain xs) (content_utf8 xs (front ++ x ∷ []) (subst IsUtf8 (sym (append_assoc front (x ∷ []) xs)) u)))))

  slash_utf8 : (xs front : List ℕ) → IsUtf8 front → IsUtf8 xs → Behind front (content after_backslash xs)
  slash_utf8 [] front u v = tt
  slash_utf8 (x ∷ xs) front u v =
      cond_both (x == 117) (content after_u xs) _ (Behind front)
      (λ t. let is : x ≡ 117 = eqb-true x 117 t in unit_utf8 xs front u (after_ascii [] x xs v (omega (arith, is)))) (λ _.
      escape_utf8 x xs front (short_escape x) refl u v (λ c. content_utf8 xs (front ++ c ∷ [])))

  unit_utf8 : (xs front : List ℕ) → IsUtf8 front → IsUtf8 xs → Behind front (content after_u xs)
  unit_utf8 [] front u v = tt
  unit_utf8 (a ∷ []) front u v = tt
  unit_utf8 (a ∷ b ∷ []) front u v = tt
  unit_utf8 (a ∷ b ∷ c ∷ []) front u v = tt
  unit_utf8 (a ∷ b ∷ c ∷ d ∷ xs) front u v =
      unit_then a b c d xs front (code_unit a b c d) refl u v (λ n high w. high_utf8 n xs front high u w) (λ bytes. content_utf8 xs (front ++ bytes))

  high_utf8 : (h : ℕ) (xs front : List ℕ) → (55296 ≤ h) × (h < 56320) → IsUtf8 front → IsUtf8 xs → Behind front (content (after_high h) xs)
  high_utf8 h [] front high u v = tt
  high_utf8 h (s ∷ []) front high u v = tt
  high_utf8 h (s ∷ t ∷ []) front high u v = tt
  high_utf8 h (s ∷ t ∷ a ∷ []) front high u v = tt
  high_utf8 h (s ∷ t ∷ a ∷ b ∷ []) front high u v = tt
  high_utf8 h (s ∷ t ∷ a ∷ b ∷ c ∷ []) front high u v = tt
  high_utf8 h (s ∷ t ∷ a ∷ b ∷ c ∷ d ∷ xs) front high u v =
      cond_both ((s == 92) && (t == 117)) _ None (Behind front) (λ k.
      let two = both (s == 92) (t == 117) k in
      let first : s ≡ 92 = eqb-true s 92 two.0 in
      let second : t ≡ 117 = eqb-true t 117 two.1 in
      pair_then h a b c d xs front (code_unit a b c d) refl high u
      (after_ascii [] t (a ∷ b ∷ c ∷ d ∷ xs) (after_ascii [] s (t ∷ a ∷ b ∷ c ∷ d ∷ xs) v (omega (arith, first))) (omega (arith, second)))
      (λ bytes. content_utf8 xs (front ++ bytes))) (λ _. tt)

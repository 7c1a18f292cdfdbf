-- How far what stands first reaches: a gap and a token have some bytes, and not more than there are.
-- No token has a line feed, and no gap but the one that is a line feed.
use Rattle.std.proofs.Common.{◌≡◌, ℕ, suc, ◌+◌, ◌≤◌, Bool, true, false, not, List, [], ◌∷◌, length, take, Option, Some, None, Result, Ok, Err, refl}
use Rattle.std.proofs.Common.{sym, ap, ◌∙◌, subst, arith}
use Rattle.std.specs.Prelude.{◌==◌, ◌&&◌, if◌then◌else◌}
use Rattle.std.specs.Char.{is_ascii_digit}
use Rattle.std.specs.List.{prefix_len, take_while}
use Rattle.std.proofs.lemmas.Bool.{cond_both, eqb-true, false_from_ne_true}
use Rattle.std.proofs.lemmas.Bool.Decides.{nat_tests}
use Rattle.std.proofs.lemmas.List.Folds.{length-prefix_len}
use Rattle.std.proofs.lemmas.List.Sums.{prefix_len-le-length}
use Rattle.sky_text.specs.Lexing.{and_then, begins_name, begins_with, gap_len, goes_on_name, is_blank, is_escape, long_or_short, named, number}
use Rattle.sky_text.specs.Lexing.{number_of, short_or_bad, sign_at, text_from, token_at, unescaped, with_byte}
use Rattle.sky_text.specs.Parts.{NoFeed}
use Rattle.sky_text.specs.Place.{is_line_feed}
use Rattle.sky_text.specs.Words.{long_sign, short_sign}
use Rattle.sky_text.specs.declared.token.Sign.{Sign}
use Rattle.sky_text.specs.declared.token.TokenKind.{TokenKind}
use Rattle.sky_text.specs.declared.lex.LexRefusal.{LexRefusal}

-- from this place to that, the bytes are there, at least one, and have no line feed
abbrev pub Span : ℕ → ℕ → List ℕ → Type 0
Span at to bytes = (n : ℕ) × (to ≡ at + suc n) × (suc n ≤ length bytes) × NoFeed (take (suc n) bytes)

no_feed_while : (p : ℕ → Bool) → ((b : ℕ) → p b ≡ true → is_line_feed b ≡ false) → (bs : List ℕ) → NoFeed (take (prefix_len p bs) bs)
no_feed_while p h [] = tt
no_feed_while p h (b ∷ r) = cond_both (p b) (1 + prefix_len p r) 0 (λ n. NoFeed (take n (b ∷ r)))
    (λ t. let e : 1 + prefix_len p r ≡ suc (prefix_len p r) = omega arith in rw e (h b t, no_feed_while p h r)) (λ _. tt)

name_no_feed : (b : ℕ) → goes_on_name b ≡ true → is_line_feed b ≡ false
name_no_feed b h = grind (arith, nat_tests)

digit_no_feed : (b : ℕ) → is_ascii_digit b ≡ true → is_line_feed b ≡ false
digit_no_feed b h = grind (arith, nat_tests)

other_no_feed : (b : ℕ) → not (is_line_feed b) ≡ true → is_line_feed b ≡ false
other_no_feed b h = elim (is_line_feed b) as (λ v. not v ≡ true → v ≡ false) [ true ↦ λ e. sym e | false ↦ λ _. refl ] h

begins_goes_on : (b : ℕ) → begins_name b ≡ true → goes_on_name b ≡ true
begins_goes_on b h = rw h refl

-- what passes a test from the first byte on
span_while : (p : ℕ → Bool) → ((b : ℕ) → p b ≡ true → is_line_feed b ≡ false) → (at b : ℕ) (r : List ℕ) → p b ≡ true
    → Span at (at + length (take_while p (b ∷ r))) (b ∷ r)
span_while p h at b r t =
    let len : length (take_while p (b ∷ r)) ≡ suc (prefix_len p r) = length-prefix_len p (b ∷ r) ∙ rw t (omega arith) in
    (prefix_len p r, omega arith, omega (arith, prefix_len-le-length p r), (h b t, no_feed_while p h r))

-- Texts.

same_text : (text : List ℕ × ℕ) (content : List ℕ) (to : ℕ) → ◌≡◌ {A = Result (List ℕ × ℕ) LexRefusal} (Ok (content, to)) (Ok text) → to ≡ text.1
same_text text content to e = ap (λ (r : Result (List ℕ × ℕ) LexRefusal). elim r [ Ok x ↦ x.1 | Err _ ↦ 0 ]) e

one_more : (read : Result (List ℕ × ℕ) LexRefusal) (b : ℕ) (text : List ℕ × ℕ) (G : ℕ → Type 0) → and_then read (with_byte b) ≡ Ok text
    → ((t : List ℕ × ℕ) → read ≡ Ok t → G t.1) → G text.1
one_more (Ok t) b text G e h = subst G (same_text text (b ∷ t.0) t.1 e) (h t refl)
one_more (Err r) b text G e h = absurd (cc e)

pub text_span : (quote at : ℕ) (bs : List ℕ) (text : List ℕ × ℕ) → text_from quote at bs ≡ Ok text → Span at text.1 bs
text_span quote at [] text e = absurd (cc e)
text_span quote at (b ∷ []) text e =
    cond_both (b == 34) (Ok ([], at + 1)) (Err (LexRefusal.OpenText quote))
    (λ (r : Result (List ℕ × ℕ) LexRefusal). r ≡ Ok text → Span at text.1 (b ∷ []))
    (λ t k. subst (λ (to : ℕ). Span at to (b ∷ [])) (same_text text [] (at + 1) k)
    (0, omega arith, omega arith, (rw (eqb-true b 34 t) refl, tt))) (λ _ k. absurd (cc k)) e
text_span quote at (b ∷ c ∷ r) text e =
    let Goal : Result (List ℕ × ℕ) LexRefusal → Type 0 = λ read. read ≡ Ok text → Span at text.1 (b ∷ c ∷ r) in
    cond_both (b == 34) _ _ Goal (λ t k. subst (λ (to : ℕ). Span at to (b ∷ c ∷ r)) (same_text text [] (at + 1) k)
    (0, omega arith, omega arith, (rw (eqb-true b 34 t) refl, tt))) (λ _.
    cond_both (b == 10) _ _ Goal (λ _ k. absurd (cc k)) (λ x.
    cond_both (b == 92) _ _ Goal
    (λ t. cond_both (c == 10) _ _ Goal (λ _ k. absurd (cc k)) (λ y.
    cond_both (is_escape c) _ _ Goal (λ g k. one_more (text_from quote (at + 2) r) (unescaped c) text (λ to. Span at to (b ∷ c ∷ r)) k (λ s w.
    let more = text_span quote (at + 2) r s w in (suc (suc more.0), omega (arith, more.1), omega (arith, more.2), (x, (y, more.3)))))
    (λ _ k. absurd (cc k))))
    (λ _ k. one_more (text_from quote (at + 1) (c ∷ r)) b text (λ to. Span at to (b ∷ c ∷ r)) k (λ s w.
    let more = text_span quote (at + 1) (c ∷ r) s w in (suc more.0, omega (arith, more.1), omega (arith, more.2), (x, more.3)))))) e

-- Signs.

-- a byte that is a sign is no line feed
short_no_feed : (b : ℕ) (s : Sign) → short_sign b ≡ Some s → is_line_feed b ≡ false
short_no_feed b s h = false_from_ne_true (is_line_feed b)
    (λ e. let feed : b ≡ 10 = eqb-true b 10 e in let none : short_sign 10 ≡ Some s = subst (λ (x : ℕ). short_sign x ≡ Some s) feed h in cc none)

long_no_feed : (b c : ℕ) (s : Sign) → long_sign b c ≡ Some s → (is_line_feed b ≡ false) × (is_line_feed c ≡ false)
long_no_feed b c s h = (
  false_from_ne_true (is_line_feed b) (λ e. let feed : b ≡ 10 = eqb-true b 10 e in let some : long_sign 10 c ≡ Some s =
      subst (λ (x : ℕ). long_sign x c ≡ Some s) feed h in
      cond_both (c == 61) None None (λ (r : Option Sign). r ≡ Some s → ⊥) (λ _ k. cc k) (λ _ k. cc k) some),
  false_from_ne_true (is_line_feed c) (λ e. let feed : c ≡ 10 = eqb-true c 10 e in let some : long_sign b 10 ≡ Some s =
      subst (λ (x : ℕ). long_sign b x ≡ Some s) feed h in
      cond_both (b == 38 && false) (Some Sign.And) (if b == 124 && false then Some Sign.Or else None) (λ (r : Option Sign). r ≡ Some s → ⊥)
      (λ t. absurd (grind (arith, nat_tests)))
      (λ _. cond_both (b == 124 && false) (Some Sign.Or) None (λ (r : Option Sign). r ≡ Some s → ⊥) (λ t. absurd (grind (arith, nat_tests)))
      (λ _ k. cc k)) some),
)

same_found : (found : TokenKind × ℕ) (kind : TokenKind) (to : ℕ) → ◌≡◌ {A = Result (TokenKind × ℕ) LexRefusal} (Ok (kind, to)) (Ok found) → to
    ≡ found.1
same_found found kind to e = ap (λ (r : Result (TokenKind × ℕ) LexRefusal). elim r [ Ok x ↦ x.1 | Err _ ↦ 0 ]) e

short_span : (at b : ℕ) (r : List ℕ) (sign : Option Sign) → short_sign b ≡ sign → (found : TokenKind × ℕ) → short_or_bad at sign ≡ Ok found
    → Span at found.1 (b ∷ r)
short_span at b r (Some s) h found e = subst (λ (to : ℕ). Span at to (b ∷ r)) (same_found found (TokenKind.Sign s) (at + 1) e)
    (0, omega arith, omega arith, (short_no_feed b s h, tt))
short_span at b r None h found e = absurd (cc e)

long_span : (at b c : ℕ) (r : List ℕ) (sign : Option Sign) → long_sign b c ≡ sign → (found : TokenKind × ℕ)
    → long_or_short at sign (short_sign b) ≡ Ok found → Span at found.1 (b ∷ c ∷ r)
long_span at b c r (Some s) h found e =
    let no_feed = long_no_feed b c s h in
    subst (λ (to : ℕ). Span at to (b ∷ c ∷ r)) (same_found found (TokenKind.Sign s) (at + 2) e)
    (1, omega arith, omega arith, (no_feed.0, (no_feed.1, tt)))
long_span at b c r None h found e = short_span at b (c ∷ r) (short_sign b) refl found e

sign_span : (at b : ℕ) (r : List ℕ) (found : TokenKind × ℕ) → sign_at at b r ≡ Ok found → Span at found.1 (b ∷ r)
sign_span at b [] found e = short_span at b [] (short_sign b) refl found e
sign_span at b (c ∷ r) found e = long_span at b c r (long_sign b c) refl found e

-- Tokens and gaps.

-- where an answer with a place is found, the place that it was found at
found_at : {A : Type 0} (read : Result A LexRefusal) (answer : A → TokenKind × ℕ) (found : TokenKind × ℕ) (G : ℕ → Type 0)
    → and_then read (λ x. Ok (answer x)) ≡ Ok found → ((x : A) → read ≡ Ok x → G (answer x).1) → G found.1
found_at (Ok x) answer found G e h = subst G (same_found found (answer x).0 (answer x).1 e) (h x refl)
found_at (Err r) answer found G e h = absurd (cc e)

pub token_span : (at b : ℕ) (r : List ℕ) (found : TokenKind × ℕ) → token_at at b r ≡ Ok found → Span at found.1 (b ∷ r)
token_span at b r found e =
    let Goal : Result (TokenKind × ℕ) LexRefusal → Type 0 = λ read. read ≡ Ok found → Span at found.1 (b ∷ r) in
    cond_both (begins_name b) _ _ Goal
    (λ t k. subst (λ (to : ℕ). Span at to (b ∷ r))
    (same_found found (named (take_while goes_on_name (b ∷ r))) (at + length (take_while goes_on_name (b ∷ r))) k)
    (span_while goes_on_name name_no_feed at b r (begins_goes_on b t))) (λ _.
    cond_both (is_ascii_digit b) _ _ Goal
    (λ t k. found_at (number at (number_of (take_while is_ascii_digit (b ∷ r))))
    (λ kind. (kind, at + length (take_while is_ascii_digit (b ∷ r)))) found (λ to. Span at to (b ∷ r)) k
    (λ kind _. span_while is_ascii_digit digit_no_feed at b r t)) (λ _.
    cond_both (b == 34) _ _ Goal
    (λ t k. found_at (text_from at (at + 1) r) (λ text. (TokenKind.Text text.0, text.1)) found (λ to. Span at to (b ∷ r)) k (λ text w.
    let more = text_span at (at + 1) r text w in (suc more.0, omega (arith, more.1), omega (arith, more.2), (rw (eqb-true b 34 t) refl, more.3))))
    (λ _ k. sign_span at b r found k))) e

first_some : (b : ℕ) (r : List ℕ) → begins_with b r ≡ true → 1 ≤ length r
first_some b [] h = absurd (cc h)
first_some b (c ∷ r) h = omega arith

pub gap_within : (b : ℕ) (r : List ℕ) → gap_len b r ≤ suc (length r)
gap_within b r =
    cond_both (is_blank b) 1 _ (λ n. n ≤ suc (length r)) (λ _. omega arith) (λ _.
    cond_both (b == 47 && begins_with 47 r) (1 + prefix_len (λ c. not (is_line_feed c)) r) 0 (λ n. n ≤ suc (length r))
    (λ _. omega (arith, prefix_len-le-length (λ c. not (is_line_feed c)) r)) (λ _. omega arith))

pub gap_feed : (r : List ℕ) → gap_len 10 r ≡ 1
gap_feed r = refl

pub gap_no_feed : (b : ℕ) (r : List ℕ) → (b ≡ 10 → ⊥) → NoFeed (take (gap_len b r) (b ∷ r))
gap_no_feed b r h =
    let other : is_line_feed b ≡ false = false_from_ne_true (is_line_feed b) (λ e. h (eqb-true b 10 e)) in
    cond_both (is_blank b) 1 _ (λ n. NoFeed (take n (b ∷ r))) (λ _. (other, tt)) (λ _.
    cond_both (b == 47 && begins_with 47 r) (1 + prefix_len (λ c. not (is_line_feed c)) r) 0 (λ n. NoFeed (take n (b ∷ r)))
    (λ _. let e : 1 + prefix_len (λ c. not (is_line_feed c)) r ≡ suc (prefix_len (λ c. not (is_line_feed c)) r) = omega arith in
    rw e (other, no_feed_while (λ c. not (is_line_feed c)) other_no_feed r)) (λ _. tt))

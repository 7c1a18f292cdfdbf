-- The tokens of a script and the gaps between them are all of its bytes.
use Rattle.std.proofs.Common.{◌≡◌, ℕ, zero, suc, ◌+◌, ◌-◌, ◌≤◌, ◌<◌, Bool, true, false, cond, not, List, [], ◌∷◌, ◌++◌, length, take, drop, pos}
use Rattle.std.proofs.Common.{Option, Some, None, Result, Ok, Err, refl, sym, ap, ◌∙◌, subst, inl, inr, arith}
use Rattle.std.specs.Prelude.{◌==◌, ◌&&◌, nat_lt}
use Rattle.std.specs.Char.{is_ascii_digit}
use Rattle.std.specs.List.{AllByRecursion, list_all, prefix_len, take_while}
use Rattle.std.specs.Str.{bytes_eq}
use Rattle.std.proofs.lemmas.Bool.{cases_lt, cond_both, eqb-true}
use borrow.Author.Tests.{ltb-false}
use Rattle.std.proofs.lemmas.Bool.Decides.{nat_tests}
use Rattle.std.proofs.lemmas.List.{length-drop, length-take-le, take-append-drop}
use Rattle.std.proofs.lemmas.List.Folds.{length-prefix_len}
use Rattle.std.proofs.lemmas.Slice.Eq.{bytes_eq-Decides}
use Rattle.sky_text.specs.Lexing.{and_then, begins_name, begins_with, gap_len, goes_on_name, is_blank, is_escape, long_or_short, named, number}
use Rattle.sky_text.specs.Lexing.{number_of, short_or_bad, sign_at, text_from, token_at, token_of, tokens_from, unescaped, with_byte, word_or_name}
use Rattle.sky_text.specs.Parts.{AreParts, GapsAndTokens, IsGap, LineEnds, NoFeed, Part, Quotes, Spells, escape, gap, joined, none, plain, token}
use Rattle.sky_text.specs.Parts.{tokens_in}
use Rattle.sky_text.specs.Place.{is_line_feed}
use Rattle.sky_text.specs.Spelling.{IsName, sign_text, word_text}
use Rattle.sky_text.specs.Words.{long_sign, look_up, short_sign, word_of, words}
use Rattle.sky_text.specs.declared.token.Word.{Word}
use Rattle.sky_text.specs.declared.token.Sign.{Sign}
use Rattle.sky_text.specs.declared.token.TokenKind.{TokenKind}
use Rattle.sky_text.specs.declared.token.Token.{Token}
use Rattle.sky_text.specs.declared.lex.LexRefusal.{LexRefusal}
use Rattle.sky_text.proofs.Decimal.{both}
use Rattle.sky_text.proofs.LexingSteps.{Read, at_gap, at_refusal, at_token, from_tokens}
use Rattle.sky_text.proofs.Spans.{gap_within, token_span}

-- Gaps.

feed_ends : (r : List ℕ) → LineEnds (drop (prefix_len (λ c. not (is_line_feed c)) r) r) × NoFeed (take (prefix_len (λ c. not (is_line_feed c)) r) r)
feed_ends [] = (tt, tt)
feed_ends (b ∷ r) =
    let Goal : ℕ → Type 0 = λ n. LineEnds (drop n (b ∷ r)) × NoFeed (take n (b ∷ r)) in
    elim (is_line_feed b) as (λ v. is_line_feed b ≡ v → Goal (cond (not v) (1 + prefix_len (λ c. not (is_line_feed c)) r) 0)) [
      | true ↦ λ t. (t, tt)
      | false ↦ λ f. let e : 1 + prefix_len (λ c. not (is_line_feed c)) r ≡ suc (prefix_len (λ c. not (is_line_feed c)) r) = omega arith in
          rw e ((feed_ends r).0, (f, (feed_ends r).1))
    ] refl

comment_is_gap : (r : List ℕ) → begins_with 47 r ≡ true
    → IsGap (47 ∷ take (prefix_len (λ c. not (is_line_feed c)) r) r) (drop (prefix_len (λ c. not (is_line_feed c)) r) r)
comment_is_gap [] h = absurd (cc h)
comment_is_gap (c ∷ r) h =
    let slash : c ≡ 47 = eqb-true c 47 h in
    let ends = feed_ends (c ∷ r) in
    subst (λ (x : ℕ). LineEnds (drop (prefix_len (λ c. not (is_line_feed c)) (x ∷ r)) (x ∷ r))
    × NoFeed (take (prefix_len (λ c. not (is_line_feed c)) (x ∷ r)) (x ∷ r))
    → IsGap (47 ∷ take (prefix_len (λ c. not (is_line_feed c)) (x ∷ r)) (x ∷ r))
    (drop (prefix_len (λ c. not (is_line_feed c)) (x ∷ r)) (x ∷ r))) (sym slash)
    (λ ends. let e : 1 + prefix_len (λ c. not (is_line_feed c)) r ≡ suc (prefix_len (λ c. not (is_line_feed c)) r) = omega arith in
    inr (take (prefix_len (λ c. not (is_line_feed c)) r) r, ap (λ (n : ℕ). 47 ∷ take n (47 ∷ r)) e, (feed_ends r).1, ends.0)) ends

gap_is_gap : (b : ℕ) (r : List ℕ) → 0 < gap_len b r → IsGap (take (gap_len b r) (b ∷ r)) (drop (gap_len b r) (b ∷ r))
gap_is_gap b r h =
    let Goal : ℕ → Type 0 = λ n. 0 < n → IsGap (take n (b ∷ r)) (drop n (b ∷ r)) in
    cond_both (is_blank b) 1 _ Goal (λ t _. inl (b, refl, t)) (λ _.
    cond_both (b == 47 && begins_with 47 r) (1 + prefix_len (λ c. not (is_line_feed c)) r) 0 Goal
    (λ t _. let two = both (b == 47) (begins_with 47 r) t in
    let slash : b ≡ 47 = eqb-true b 47 two.0 in
    let e : 1 + prefix_len (λ c. not (is_line_feed c)) r ≡ suc (prefix_len (λ c. not (is_line_feed c)) r) = omega arith in
    rw e (subst (λ (x : ℕ). IsGap (x ∷ take (prefix_len (λ c. not (is_line_feed c)) r) r) (drop (prefix_len (λ c. not (is_line_feed c)) r) r))
    (sym slash) (comment_is_gap r two.1)))
    (λ _ k. absurd (omega arith))) h

-- Words and signs.

in_table : (table : List (List ℕ × Word)) → AllByRecursion (λ entry. entry.0 ≡ word_text entry.1) table → (s : List ℕ) (w : Word)
    → look_up table s ≡ Some w → s ≡ word_text w
in_table [] h s w e = absurd (cc e)
in_table (entry ∷ more) h s w e =
    cond_both (bytes_eq s entry.0) (Some entry.1) (look_up more s) (λ (r : Option Word). r ≡ Some w → s ≡ word_text w)
    (λ t k. let same : entry.1 ≡ w = cc in (bytes_eq-Decides s entry.0).0 t ∙ h.0 ∙ ap word_text same) (λ _ k. in_table more h.1 s w k) e

word_spelled : (s : List ℕ) (w : Word) → word_of s ≡ Some w → s ≡ word_text w
word_spelled = in_table words (
  refl,
  (
    refl,
    (
      refl,
      (
        refl,
        (
          refl,
          (
            refl,
            (refl, (refl, (refl, (refl, (refl, (refl, (refl, (refl, (refl, (refl, (refl, (refl, (refl, tt))))))))))))),
          ),
        ),
      ),
    ),
  ),
)

short_spelled : (b : ℕ) (s : Sign) → short_sign b ≡ Some s → b ∷ [] ≡ sign_text s
short_spelled b s e =
    let Goal : Option Sign → Type 0 = λ r. r ≡ Some s → b ∷ [] ≡ sign_text s in
    let is : (c : ℕ) (g : Sign) → c ∷ [] ≡ sign_text g → (b == c) ≡ true → Some g ≡ Some s → b ∷ [] ≡ sign_text s = λ c g k t some. let same : g
    ≡ s = cc in ap (λ (x : ℕ). x ∷ []) (eqb-true b c t) ∙ k ∙ ap sign_text same in
    cond_both (b == 40) _ _ Goal (is 40 Sign.OpenRound refl)
    (λ _. cond_both (b == 41) _ _ Goal (is 41 Sign.CloseRound refl)
    (λ _. cond_both (b == 123) _ _ Goal (is 123 Sign.OpenCurly refl)
    (λ _. cond_both (b == 125) _ _ Goal (is 125 Sign.CloseCurly refl)
    (λ _. cond_both (b == 91) _ _ Goal (is 91 Sign.OpenSquare refl)
    (λ _. cond_both (b == 93) _ _ Goal (is 93 Sign.CloseSquare refl)
    (λ _. cond_both (b == 44) _ _ Goal (is 44 Sign.Comma refl)
    (λ _. cond_both (b == 59) _ _ Goal (is 59 Sign.Semicolon refl)
    (λ _. cond_both (b == 58) _ _ Goal (is 58 Sign.Colon refl)
    (λ _. cond_both (b == 61) _ _ Goal (is 61 Sign.Assign refl)
    (λ _. cond_both (b == 43) _ _ Goal (is 43 Sign.Plus refl)
    (λ _. cond_both (b == 45) _ _ Goal (is 45 Sign.Minus refl)
    (λ _. cond_both (b == 42) _ _ Goal (is 42 Sign.Star refl)
    (λ _. cond_both (b == 47) _ _ Goal (is 47 Sign.Slash refl)
    (λ _. cond_both (b == 37) _ _ Goal (is 37 Sign.Percent refl)
    (λ _. cond_both (b == 33) _ _ Goal (is 33 Sign.Not refl)
    (λ _. cond_both (b == 60) _ _ Goal (is 60 Sign.Less refl)
    (λ _. cond_both (b == 62) _ _ Goal (is 62 Sign.Greater refl) (λ _ k. absurd (cc k))))))))))))))))))) e

long_spelled : (b c : ℕ) (s : Sign) → long_sign b c ≡ Some s → b ∷ c ∷ [] ≡ sign_text s
long_spelled b c s e =
    let Goal : Option Sign → Type 0 = λ r. r ≡ Some s → b ∷ c ∷ [] ≡ sign_text s in
    let is : (x y : ℕ) (g : Sign) → x ∷ y ∷ [] ≡ sign_text g → (b == x) ≡ true → (c == y) ≡ true → Some g ≡ Some s → b ∷ c ∷ [] ≡ sign_text s =
    λ x y g k t u some. let same : g ≡ s = cc in ap (λ (x : ℕ). x ∷ c ∷ []) (eqb-true b x t) ∙ ap (λ (y : ℕ). x ∷ y ∷ []) (eqb-true c y u) ∙ k
    ∙ ap sign_text same in
    cond_both (c == 61) _ _ Goal (λ u. cond_both (b == 61) _ _ Goal (λ t. is 61 61 Sign.Equal refl t u)
    (λ _. cond_both (b == 43) _ _ Goal (λ t. is 43 61 Sign.AddAssign refl t u)
    (λ _. cond_both (b == 33) _ _ Goal (λ t. is 33 61 Sign.NotEqual refl t u)
    (λ _. cond_both (b == 60) _ _ Goal (λ t. is 60 61 Sign.LessEqual refl t u)
    (λ _. cond_both (b == 62) _ _ Goal (λ t. is 62 61 Sign.GreaterEqual refl t u) (λ _ k. absurd (cc k)))))))
    (λ _. cond_both (b == 38 && c == 38) _ _ Goal (λ t. let two = both (b == 38) (c == 38) t in is 38 38 Sign.And refl two.0 two.1)
    (λ _. cond_both (b == 124 && c == 124) _ _ Goal (λ t. let two = both (b == 124) (c == 124) t in is 124 124 Sign.Or refl two.0 two.1)
    (λ _ k. absurd (cc k)))) e

-- Texts.

ok_same : {A : Type 0} (x y : A) → ◌≡◌ {A = Result A LexRefusal} (Ok x) (Ok y) → x ≡ y
ok_same x y e = cc

abbrev Quoted : ℕ → List ℕ → List ℕ × ℕ → Type 0
Quoted at bs text = (q : List ℕ) × (text.1 ≡ at + suc (length q)) × (take (suc (length q)) bs ≡ q ++ 34 ∷ []) × Quotes q text.0

with_one_more : (read : Result (List ℕ × ℕ) LexRefusal) (b : ℕ) (text : List ℕ × ℕ) (G : List ℕ × ℕ → Type 0) → and_then read (with_byte b)
    ≡ Ok text → ((t : List ℕ × ℕ) → read ≡ Ok t → G (b ∷ t.0, t.1)) → G text
with_one_more (Ok t) b text G e h = subst G (ok_same (b ∷ t.0, t.1) text e) (h t refl)
with_one_more (Err r) b text G e h = absurd (cc e)

unequal : (a b : ℕ) → (a == b) ≡ false → a ≡ b → ⊥
unequal a b h e = grind (arith, nat_tests)

text_quotes : (quote at : ℕ) (bs : List ℕ) (text : List ℕ × ℕ) → text_from quote at bs ≡ Ok text → Quoted at bs text
text_quotes quote at [] text e = absurd (cc e)
text_quotes quote at (b ∷ []) text e =
    cond_both (b == 34) (Ok ([], at + 1)) (Err (LexRefusal.OpenText quote))
    (λ (r : Result (List ℕ × ℕ) LexRefusal). r ≡ Ok text → Quoted at (b ∷ []) text)
    (λ t k. subst (Quoted at (b ∷ [])) (ok_same ([], at + 1) text k) ([], refl, ap (λ (x : ℕ). x ∷ []) (eqb-true b 34 t), none))
    (λ _ k. absurd (cc k)) e
text_quotes quote at (b ∷ c ∷ r) text e =
    let Goal : Result (List ℕ × ℕ) LexRefusal → Type 0 = λ read. read ≡ Ok text → Quoted at (b ∷ c ∷ r) text in
    cond_both (b == 34) _ _ Goal (λ t k. subst (Quoted at (b ∷ c ∷ r)) (ok_same ([], at + 1) text k)
    ([], refl, ap (λ (x : ℕ). x ∷ []) (eqb-true b 34 t), none)) (λ x.
    cond_both (b == 10) _ _ Goal (λ _ k. absurd (cc k)) (λ z.
    cond_both (b == 92) _ _ Goal
    (λ t. cond_both (c == 10) _ _ Goal (λ _ k. absurd (cc k)) (λ _.
    cond_both (is_escape c) _ _ Goal (λ g k. with_one_more (text_from quote (at + 2) r) (unescaped c) text (Quoted at (b ∷ c ∷ r)) k (λ s w.
    let more = text_quotes quote (at + 2) r s w in
    let slash : b ≡ 92 = eqb-true b 92 t in (
      92 ∷ c ∷ more.0,
      more.1 ∙ omega arith,
      ap (λ (x : List ℕ). b ∷ c ∷ x) more.2 ∙ ap (λ (x : ℕ). x ∷ c ∷ (more.0 ++ 34 ∷ [])) slash,
      escape c more.0 s.0 g more.3,
    ))) (λ _ k. absurd (cc k))))
    (λ y k. with_one_more (text_from quote (at + 1) (c ∷ r)) b text (Quoted at (b ∷ c ∷ r)) k (λ s w.
    let more = text_quotes quote (at + 1) (c ∷ r) s w in (
      b ∷ more.0,
      more.1 ∙ omega arith,
      ap (λ (x : List ℕ). b ∷ x) more.2,
      plain b more.0 s.0 (unequal b 34 x, unequal b 92 y, unequal b 10 z) more.3,
    ))))) e

-- Tokens.

passes_all : (p : ℕ → Bool) (xs : List ℕ) → list_all p (take_while p xs) ≡ true
passes_all p [] = refl
passes_all p (x ∷ r) = cond_both (p x) (1 + prefix_len p r) 0 (λ n. list_all p (take n (x ∷ r)) ≡ true)
    (λ t. let e : 1 + prefix_len p r ≡ suc (prefix_len p r) = omega arith in rw e (rw (t, passes_all p r) refl)) (λ _. refl)

first_taken : (p : ℕ → Bool) (b : ℕ) (r : List ℕ) → p b ≡ true → take_while p (b ∷ r) ≡ b ∷ take_while p r
first_taken p b r h = ap (λ (v : Bool). take (cond v (1 + prefix_len p r) 0) (b ∷ r)) h
    ∙ ap (λ (n : ℕ). take n (b ∷ r)) (let e : 1 + prefix_len p r ≡ suc (prefix_len p r) = omega arith in e)

-- the bytes up to where they end
slice_of : (p : ℕ → Bool) (at : ℕ) (bs : List ℕ) → take (at + length (take_while p bs) - at) bs ≡ take_while p bs
slice_of p at bs = ap (λ (n : ℕ). take n bs)
    (let e : at + length (take_while p bs) - at ≡ prefix_len p bs = omega (arith, length-prefix_len p bs) in e)

named_spells : (s : List ℕ) (o : Option Word) → word_of s ≡ o → (word_of s ≡ None → IsName s) → Spells s (word_or_name o s)
named_spells s (Some w) e h = word_spelled s w e
named_spells s None e h = (refl, h e)

begins_goes_on : (b : ℕ) → begins_name b ≡ true → goes_on_name b ≡ true
begins_goes_on b h = rw h refl

name_spells : (b : ℕ) (r : List ℕ) → begins_name b ≡ true → Spells (take_while goes_on_name (b ∷ r)) (named (take_while goes_on_name (b ∷ r)))
name_spells b r h = subst (λ (s : List ℕ). Spells s (named s)) (sym (first_taken goes_on_name b r (begins_goes_on b h)))
    (named_spells (b ∷ take_while goes_on_name r) (word_of (b ∷ take_while goes_on_name r)) refl (λ e. (h, passes_all goes_on_name r, e)))

number_spells : (s : List ℕ) (n : ℕ) → number_of s ≡ n → 0 < length s → list_all is_ascii_digit s ≡ true → n ≤ 9223372036854775807
    → Spells s (TokenKind.Number (pos n))
number_spells s n e some digits small = (some, digits, e, small)

short_spells : (at b : ℕ) (r : List ℕ) (sign : Option Sign) → short_sign b ≡ sign → (found : TokenKind × ℕ) → short_or_bad at sign ≡ Ok found
    → Spells (take (found.1 - at) (b ∷ r)) found.0
short_spells at b r (Some s) h found e =
    let one : at + 1 - at ≡ 1 = omega arith in
    subst (λ (f : TokenKind × ℕ). Spells (take (f.1 - at) (b ∷ r)) f.0) (ok_same (TokenKind.Sign s, at + 1) found e)
    (ap (λ (n : ℕ). take n (b ∷ r)) one ∙ short_spelled b s h)
short_spells at b r None h found e = absurd (cc e)

long_spells : (at b c : ℕ) (r : List ℕ) (sign : Option Sign) → long_sign b c ≡ sign → (found : TokenKind × ℕ)
    → long_or_short at sign (short_sign b) ≡ Ok found → Spells (take (found.1 - at) (b ∷ c ∷ r)) found.0
long_spells at b c r (Some s) h found e =
    let two : at + 2 - at ≡ 2 = omega arith in
    subst (λ (f : TokenKind × ℕ). Spells (take (f.1 - at) (b ∷ c ∷ r)) f.0) (ok_same (TokenKind.Sign s, at + 2) found e)
    (ap (λ (n : ℕ). take n (b ∷ c ∷ r)) two ∙ long_spelled b c s h)
long_spells at b c r None h found e = short_spells at b (c ∷ r) (short_sign b) refl found e

sign_spells : (at b : ℕ) (r : List ℕ) (found : TokenKind × ℕ) → sign_at at b r ≡ Ok found → Spells (take (found.1 - at) (b ∷ r)) found.0
sign_spells at b [] found e = short_spells at b [] (short_sign b) refl found e
sign_spells at b (c ∷ r) found e = long_spells at b c r (long_sign b c) refl found e

found_as : {A : Type 0} (read : Result A LexRefusal) (answer : A → TokenKind × ℕ) (found : TokenKind × ℕ) (G : TokenKind × ℕ → Type 0)
    → and_then read (λ x. Ok (answer x)) ≡ Ok found → ((x : A) → read ≡ Ok x → G (answer x)) → G found
found_as (Ok x) answer found G e h = subst G (ok_same (answer x) found e) (h x refl)
found_as (Err r) answer found G e h = absurd (cc e)

digits_spell : (at b : ℕ) (r : List ℕ) → is_ascii_digit b ≡ true → (kind : TokenKind) → number at (number_of (take_while is_ascii_digit (b ∷ r)))
    ≡ Ok kind → Spells (take_while is_ascii_digit (b ∷ r)) kind
digits_spell at b r h kind e =
    let s = take_while is_ascii_digit (b ∷ r) in
    let some : 0 < length s = rw (first_taken is_ascii_digit b r h) (omega arith) in
    cond_both (nat_lt 9223372036854775807 (number_of s)) (Err (LexRefusal.BigNumber at)) (Ok (TokenKind.Number (pos (number_of s))))
    (λ (z : Result TokenKind LexRefusal). z ≡ Ok kind → Spells s kind) (λ _ k. absurd (cc k))
    (λ f k. subst (Spells s) (ok_same (TokenKind.Number (pos (number_of s))) kind k)
    (number_spells s (number_of s) refl some (passes_all is_ascii_digit (b ∷ r)) (ltb-false 9223372036854775807 (number_of s) f))) e

token_spells : (at b : ℕ) (r : List ℕ) (found : TokenKind × ℕ) → token_at at b r ≡ Ok found → Spells (take (found.1 - at) (b ∷ r)) found.0
token_spells at b r found e =
    let Spelled : TokenKind × ℕ → Type 0 = λ f. Spells (take (f.1 - at) (b ∷ r)) f.0 in
    let Goal : Result (TokenKind × ℕ) LexRefusal → Type 0 = λ read. read ≡ Ok found → Spelled found in
    cond_both (begins_name b) _ _ Goal
    (λ t k. subst Spelled (ok_same (named (take_while goes_on_name (b ∷ r)), at + length (take_while goes_on_name (b ∷ r))) found k)
    (subst (λ (s : List ℕ). Spells s (named (take_while goes_on_name (b ∷ r)))) (sym (slice_of goes_on_name at (b ∷ r))) (name_spells b r t))) (λ _.
    cond_both (is_ascii_digit b) _ _ Goal
    (λ t k. found_as (number at (number_of (take_while is_ascii_digit (b ∷ r))))
    (λ kind. (kind, at + length (take_while is_ascii_digit (b ∷ r)))) found Spelled k (λ kind w.
    subst (λ (s : List ℕ). Spells s kind) (sym (slice_of is_ascii_digit at (b ∷ r))) (digits_spell at b r t kind w))) (λ _.
    cond_both (b == 34) _ _ Goal
    (λ t k. found_as (text_from at (at + 1) r) (λ text. (TokenKind.Text text.0, text.1)) found Spelled k (λ text w.
    let quotes = text_quotes at (at + 1) r text w in
    let len : text.1 - at ≡ suc (suc (length quotes.0)) = omega (arith, quotes.1) in (
      quotes.0,
      ap (λ (n : ℕ). take n (b ∷ r)) len ∙ ap (λ (x : List ℕ). b ∷ x) quotes.2
          ∙ ap (λ (x : ℕ). x ∷ (quotes.0 ++ 34 ∷ [])) (eqb-true b 34 t),
      quotes.3,
    )))
    (λ _ k. sign_spells at b r found k))) e

-- Scripts.

abbrev Parted : List ℕ → ℕ → List ℕ → List Token → Type 0
Parted bytes at rest ts = (parts : List Part) × AreParts parts × (rest ≡ joined parts) × (ts ≡ tokens_in bytes at parts)

gap_part : (bytes : List ℕ) (at b : ℕ) (r : List ℕ) (ts : List Token) → 0 < gap_len b r
    → Parted bytes (at + gap_len b r) (drop (gap_len b r) (b ∷ r)) ts → Parted bytes at (b ∷ r) ts
gap_part bytes at b r ts h more =
    let n = gap_len b r in
    let g = take n (b ∷ r) in
    let len : length g ≡ n = length-take-le n (b ∷ r) (gap_within b r) in (
      gap g ∷ more.0,
      (subst (IsGap g) more.2 (gap_is_gap b r h), more.1),
      sym (take-append-drop n (b ∷ r)) ∙ ap (λ (x : List ℕ). g ++ x) more.2,
      more.3 ∙ ap (λ (x : ℕ). tokens_in bytes (at + x) more.0) (sym len),
    )

token_part : (bytes : List ℕ) (at b : ℕ) (r : List ℕ) (found : TokenKind × ℕ) (ts : List Token) → token_at at b r ≡ Ok found
    → Parted bytes found.1 (drop (found.1 - at) (b ∷ r)) ts → Parted bytes at (b ∷ r) (token_of bytes at found.0 found.1 ∷ ts)
token_part bytes at b r found ts e more =
    let span = token_span at b r found e in
    let n = found.1 - at in
    let s = take n (b ∷ r) in
    let len : length s ≡ n = length-take-le n (b ∷ r) (omega (arith, span.1, span.2)) in
    let to : at + length s ≡ found.1 = omega (arith, span.1, len) in (
      token s found.0 ∷ more.0,
      (token_spells at b r found e, more.1),
      sym (take-append-drop n (b ∷ r)) ∙ ap (λ (x : List ℕ). s ++ x) more.2,
      ap (λ (x : List Token). token_of bytes at found.0 found.1 ∷ x) more.3
          ∙ ap (λ (x : ℕ). token_of bytes at found.0 x ∷ tokens_in bytes x more.0) (sym to),
    )

-- where a token is found and then more tokens
then_tokens : (read : Read) (t : Token) (ts : List Token) (G : List Token → Type 0) → and_then read (λ more. Ok (t ∷ more)) ≡ Ok ts
    → ((more : List Token) → read ≡ Ok more → G (t ∷ more)) → G ts
then_tokens (Ok more) t ts G e h = subst G (ok_same (t ∷ more) ts e) (h more refl)
then_tokens (Err x) t ts G e h = absurd (cc e)

at_piece : (bytes : List ℕ) (at b : ℕ) (r : List ℕ) (ts : List Token) (read : Result (TokenKind × ℕ) LexRefusal) → token_at at b r ≡ read
    → gap_len b r ≤ 0 → tokens_from bytes at 0 (b ∷ r) ≡ Ok ts
    → ((at2 : ℕ) (rest : List ℕ) (more : List Token) → length rest ≤ length r → tokens_from bytes at2 0 rest ≡ Ok more
    → Parted bytes at2 rest more) → Parted bytes at (b ∷ r) ts
at_piece bytes at b r ts (Err x) e no_gap k ih = absurd (cc (sym (at_refusal bytes at b r x no_gap e) ∙ k))
at_piece bytes at b r ts (Ok found) e no_gap k ih =
    let span = token_span at b r found e in
    then_tokens (tokens_from bytes found.1 0 (drop (found.1 - at) (b ∷ r))) (token_of bytes at found.0 found.1) ts (Parted bytes at (b ∷ r))
    (sym (at_token bytes at b r found no_gap e) ∙ k)
    (λ more w. token_part bytes at b r found more e
    (ih found.1 (drop (found.1 - at) (b ∷ r)) more (omega (arith, length-drop (found.1 - at) (b ∷ r), span.1, span.2)) w))

parts_of : (n : ℕ) (bytes : List ℕ) (at : ℕ) (rest : List ℕ) (ts : List Token) → length rest ≤ n → tokens_from bytes at 0 rest ≡ Ok ts
    → Parted bytes at rest ts
parts_of n bytes at [] ts le e = ([], tt, refl, sym (ok_same [] ts e))
parts_of zero bytes at (b ∷ r) ts le e = absurd (omega arith)
parts_of (suc n) bytes at (b ∷ r) ts le e =
    elim (cases_lt 0 (gap_len b r)) [
      | inl some ↦ gap_part bytes at b r ts some
          (parts_of n bytes (at + gap_len b r) (drop (gap_len b r) (b ∷ r)) ts (omega (arith, length-drop (gap_len b r) (b ∷ r)))
          (sym (at_gap bytes at b r some (gap_within b r)) ∙ e))
      | inr no_gap ↦ at_piece bytes at b r ts (token_at at b r) refl no_gap e
          (λ at2 rest more short w. parts_of n bytes at2 rest more (omega arith) w)
    ]

pub gaps_and_tokens : GapsAndTokens
gaps_and_tokens bytes ts e = parts_of (length bytes) bytes 0 bytes ts (omega arith) (from_tokens bytes ts e)

-- Tokens that are spelled out with a blank between them are those tokens again.
use Rattle.std.proofs.Common.{◌≡◌, ℕ, suc, ◌+◌, ◌-◌, ◌≤◌, Bool, true, false, cond, List, [], ◌∷◌, ◌++◌, length, take, drop, map, pos, negsuc, Option}
use Rattle.std.proofs.Common.{Some, None, Result, Ok, Err, refl, sym, ap, ◌∙◌, arith, append_assoc}
use Rattle.std.specs.Prelude.{◌==◌, codes}
use Rattle.std.specs.Char.{is_ascii_digit}
use Rattle.std.specs.List.{list_all, prefix_len, take_while}
use Rattle.std.proofs.lemmas.Bool.{cond_both, eqb-true, false≢true, le-ltb}
use Rattle.std.proofs.lemmas.Bool.Decides.{nat_tests}
use Rattle.std.proofs.lemmas.List.{append-nil, drop_at, length-append}
use Rattle.std.proofs.Math.Seq.{take-append_seam}
use Rattle.sky_text.specs.Lexing.{and_then, begins_name, gap_len, goes_on_name, is_blank, named, number, number_of, text_from, token_at, token_of}
use Rattle.sky_text.specs.Lexing.{tokens_from, with_byte, word_or_name}
use Rattle.sky_text.specs.Spelling.{AreKinds, IsKind, IsName, SpelledOutAgain, decimal, quoted, sign_text, spell, spelled_out, word_text}
use Rattle.sky_text.specs.declared.token.Word.{Word}
use Rattle.sky_text.specs.declared.token.Sign.{Sign}
use Rattle.sky_text.specs.declared.token.TokenKind.{TokenKind}
use Rattle.sky_text.specs.declared.token.Token.{Token}
use Rattle.sky_text.specs.declared.lex.LexRefusal.{LexRefusal}
use Rattle.sky_text.proofs.Decimal.{both, decimal_digits, decimal_some, decimal_value, name_goes_on}
use Rattle.sky_text.proofs.Leaves.{text_plain}
use Rattle.sky_text.proofs.LexingSteps.{Read, at_token, of_utf8}
use Rattle.sky_text.proofs.SpellingUtf8.{spelled_utf8}

-- what stands behind a token: nothing, or a blank and more
abbrev behind : Option (List ℕ) → List ℕ
behind None = []
behind (Some more) = 32 ∷ more

-- the bytes begin with a token of this kind, and no gap stands before it
abbrev Reads : ℕ → List ℕ → TokenKind → Option (List ℕ) → Type 0
Reads at s kind o = (b : ℕ) × (q : List ℕ) × (s ≡ b ∷ q) × (gap_len b (q ++ behind o) ≤ 0)
    × (token_at at b (q ++ behind o) ≡ Ok (kind, at + length s))

unequal : (a b : ℕ) → (a == b) ≡ false → a ≡ b → ⊥
unequal a b h e = grind (arith, nat_tests)

while_stops : (p : ℕ → Bool) → p 32 ≡ false → (xs : List ℕ) → list_all p xs ≡ true → (o : Option (List ℕ)) → prefix_len p (xs ++ behind o) ≡ length xs
while_stops p n [] h None = refl
while_stops p n [] h (Some more) = rw n refl
while_stops p n (x ∷ xs) h o =
    let two = both (p x) (list_all p xs) h in
    ap (λ (v : Bool). cond v (1 + prefix_len p (xs ++ behind o)) 0) two.0 ∙ omega (arith, while_stops p n xs two.1 o)

all_taken : (p : ℕ → Bool) → p 32 ≡ false → (xs : List ℕ) → list_all p xs ≡ true → (o : Option (List ℕ)) → take_while p (xs ++ behind o) ≡ xs
all_taken p n xs h o = ap (λ (k : ℕ). take k (xs ++ behind o)) (while_stops p n xs h o) ∙ take-append_seam xs (behind o)

-- Names and words.

gap_name : (b : ℕ) (r : List ℕ) → begins_name b ≡ true → gap_len b r ≤ 0
gap_name b r h =
    let blank : is_blank b ≡ false = grind (arith, nat_tests) in
    let slash : (b == 47) ≡ false = grind (arith, nat_tests) in
    rw (blank, slash) (omega arith)

reads_name : (at b : ℕ) (q : List ℕ) (o : Option (List ℕ)) → begins_name b ≡ true → list_all goes_on_name q ≡ true
    → token_at at b (q ++ behind o) ≡ Ok (named (b ∷ q), at + length (b ∷ q))
reads_name at b q o h g =
    let whole : take_while goes_on_name (b ∷ (q ++ behind o)) ≡ b ∷ q = all_taken goes_on_name refl (b ∷ q) (name_goes_on b q h g) o in
    cond_both (begins_name b) _ _ (λ (z : Result (TokenKind × ℕ) LexRefusal). z ≡ Ok (named (b ∷ q), at + length (b ∷ q)))
    (λ _. ap (λ (name : List ℕ). Ok (named name, at + length name)) whole) (λ f. absurd (false≢true (sym f ∙ h)))

name_reads : (at : ℕ) (name : List ℕ) (o : Option (List ℕ)) → IsName name → Reads at name (TokenKind.Name name) o
name_reads at [] o h = absurd h
name_reads at (b ∷ q) o h = (
  b,
  q,
  refl,
  gap_name b (q ++ behind o) h.0,
  reads_name at b q o h.0 h.1
      ∙ ap (λ (w : Option Word). Ok (word_or_name w (b ∷ q), at + length (b ∷ q))) h.2,
)

word_reads : (at : ℕ) (w : Word) (o : Option (List ℕ)) → Reads at (word_text w) (TokenKind.Word w) o
word_reads at Word.Function o = (
  102,
  codes "unction",
  refl,
  gap_name 102 (codes "unction" ++ behind o) refl,
  reads_name at 102 (codes "unction") o refl refl,
)
word_reads at Word.Return o = (114, codes "eturn", refl, gap_name 114 (codes "eturn" ++ behind o) refl, reads_name at 114 (codes "eturn") o refl refl)
word_reads at Word.If o = (105, codes "f", refl, gap_name 105 (codes "f" ++ behind o) refl, reads_name at 105 (codes "f") o refl refl)
word_reads at Word.Else o = (101, codes "lse", refl, gap_name 101 (codes "lse" ++ behind o) refl, reads_name at 101 (codes "lse") o refl refl)
word_reads at Word.While o = (119, codes "hile", refl, gap_name 119 (codes "hile" ++ behind o) refl, reads_name at 119 (codes "hile") o refl refl)
word_reads at Word.Do o = (100, codes "o", refl, gap_name 100 (codes "o" ++ behind o) refl, reads_name at 100 (codes "o") o refl refl)
word_reads at Word.For o = (102, codes "or", refl, gap_name 102 (codes "or" ++ behind o) refl, reads_name at 102 (codes "or") o refl refl)
word_reads at Word.In o = (105, codes "n", refl, gap_name 105 (codes "n" ++ behind o) refl, reads_name at 105 (codes "n") o refl refl)
word_reads at Word.True o = (116, codes "rue", refl, gap_name 116 (codes "rue" ++ behind o) refl, reads_name at 116 (codes "rue") o refl refl)
word_reads at Word.False o = (102, codes "alse", refl, gap_name 102 (codes "alse" ++ behind o) refl, reads_name at 102 (codes "alse") o refl refl)
word_reads at Word.Null o = (110, codes "ull", refl, gap_name 110 (codes "ull" ++ behind o) refl, reads_name at 110 (codes "ull") o refl refl)
word_reads at Word.Spawn o = (115, codes "pawn", refl, gap_name 115 (codes "pawn" ++ behind o) refl, reads_name at 115 (codes "pawn") o refl refl)
word_reads at Word.SpawnExec o = (
  115,
  codes "pawn_exec",
  refl,
  gap_name 115 (codes "pawn_exec" ++ behind o) refl,
  reads_name at 115 (codes "pawn_exec") o refl refl,
)
word_reads at Word.Exec o = (101, codes "xec", refl, gap_name 101 (codes "xec" ++ behind o) refl, reads_name at 101 (codes "xec") o refl refl)
word_reads at Word.Ref o = (114, codes "ef", refl, gap_name 114 (codes "ef" ++ behind o) refl, reads_name at 114 (codes "ef") o refl refl)
word_reads at Word.Len o = (108, codes "en", refl, gap_name 108 (codes "en" ++ behind o) refl, reads_name at 108 (codes "en") o refl refl)
word_reads at Word.Keys o = (107, codes "eys", refl, gap_name 107 (codes "eys" ++ behind o) refl, reads_name at 107 (codes "eys") o refl refl)
word_reads at Word.Has o = (104, codes "as", refl, gap_name 104 (codes "as" ++ behind o) refl, reads_name at 104 (codes "as") o refl refl)
word_reads at Word.Range o = (114, codes "ange", refl, gap_name 114 (codes "ange" ++ behind o) refl, reads_name at 114 (codes "ange") o refl refl)

-- Signs.

sign_reads : (at : ℕ) (s : Sign) (o : Option (List ℕ)) → Reads at (sign_text s) (TokenKind.Sign s) o
sign_reads at Sign.OpenRound None = (40, [], refl, omega arith, refl)
sign_reads at Sign.OpenRound (Some more) = (40, [], refl, omega arith, refl)
sign_reads at Sign.CloseRound None = (41, [], refl, omega arith, refl)
sign_reads at Sign.CloseRound (Some more) = (41, [], refl, omega arith, refl)
sign_reads at Sign.OpenCurly None = (123, [], refl, omega arith, refl)
sign_reads at Sign.OpenCurly (Some more) = (123, [], refl, omega arith, refl)
sign_reads at Sign.CloseCurly None = (125, [], refl, omega arith, refl)
sign_reads at Sign.CloseCurly (Some more) = (125, [], refl, omega arith, refl)
sign_reads at Sign.OpenSquare None = (91, [], refl, omega arith, refl)
sign_reads at Sign.OpenSquare (Some more) = (91, [], refl, omega arith, refl)
sign_reads at Sign.CloseSquare None = (93, [], refl, omega arith, refl)
sign_reads at Sign.CloseSquare (Some more) = (93, [], refl, omega arith, refl)
sign_reads at Sign.Comma None = (44, [], refl, omega arith, refl)
sign_reads at Sign.Comma (Some more) = (44, [], refl, omega arith, refl)
sign_reads at Sign.Semicolon None = (59, [], refl, omega arith, refl)
sign_reads at Sign.Semicolon (Some more) = (59, [], refl, omega arith, refl)
sign_reads at Sign.Colon None = (58, [], refl, omega arith, refl)
sign_reads at Sign.Colon (Some more) = (58, [], refl, omega arith, refl)
sign_reads at Sign.Assign None = (61, [], refl, omega arith, refl)
sign_reads at Sign.Assign (Some more) = (61, [], refl, omega arith, refl)
sign_reads at Sign.AddAssign o = (43, 61 ∷ [], refl, omega arith, refl)
sign_reads at Sign.Plus None = (43, [], refl, omega arith, refl)
sign_reads at Sign.Plus (Some more) = (43, [], refl, omega arith, refl)
sign_reads at Sign.Minus None = (45, [], refl, omega arith, refl)
sign_reads at Sign.Minus (Some more) = (45, [], refl, omega arith, refl)
sign_reads at Sign.Star None = (42, [], refl, omega arith, refl)
sign_reads at Sign.Star (Some more) = (42, [], refl, omega arith, refl)
sign_reads at Sign.Slash None = (47, [], refl, omega arith, refl)
sign_reads at Sign.Slash (Some more) = (47, [], refl, omega arith, refl)
sign_reads at Sign.Percent None = (37, [], refl, omega arith, refl)
sign_reads at Sign.Percent (Some more) = (37, [], refl, omega arith, refl)
sign_reads at Sign.Not None = (33, [], refl, omega arith, refl)
sign_reads at Sign.Not (Some more) = (33, [], refl, omega arith, refl)
sign_reads at Sign.Equal o = (61, 61 ∷ [], refl, omega arith, refl)
sign_reads at Sign.NotEqual o = (33, 61 ∷ [], refl, omega arith, refl)
sign_reads at Sign.Less None = (60, [], refl, omega arith, refl)
sign_reads at Sign.Less (Some more) = (60, [], refl, omega arith, refl)
sign_reads at Sign.LessEqual o = (60, 61 ∷ [], refl, omega arith, refl)
sign_reads at Sign.Greater None = (62, [], refl, omega arith, refl)
sign_reads at Sign.Greater (Some more) = (62, [], refl, omega arith, refl)
sign_reads at Sign.GreaterEqual o = (62, 61 ∷ [], refl, omega arith, refl)
sign_reads at Sign.And o = (38, 38 ∷ [], refl, omega arith, refl)
sign_reads at Sign.Or o = (124, 124 ∷ [], refl, omega arith, refl)

-- Numbers.

gap_digit : (b : ℕ) (r : List ℕ) → is_ascii_digit b ≡ true → gap_len b r ≤ 0
gap_digit b r h =
    let blank : is_blank b ≡ false = grind (arith, nat_tests) in
    let slash : (b == 47) ≡ false = grind (arith, nat_tests) in
    rw (blank, slash) (omega arith)

digit_begins_none : (b : ℕ) → is_ascii_digit b ≡ true → begins_name b ≡ false
digit_begins_none b h = grind (arith, nat_tests)

reads_number : (at b n : ℕ) (q : List ℕ) (o : Option (List ℕ)) → list_all is_ascii_digit (b ∷ q) ≡ true → number_of (b ∷ q) ≡ n
    → n ≤ 9223372036854775807 → token_at at b (q ++ behind o) ≡ Ok (TokenKind.Number (pos n), at + length (b ∷ q))
reads_number at b n q o h e small =
    let digit = (both (is_ascii_digit b) (list_all is_ascii_digit q) h).0 in
    let whole : take_while is_ascii_digit (b ∷ (q ++ behind o)) ≡ b ∷ q = all_taken is_ascii_digit refl (b ∷ q) h o in
    let fits : number at n ≡ Ok (TokenKind.Number (pos n)) =
    ap (λ (v : Bool). cond v (Err (LexRefusal.BigNumber at)) (Ok (TokenKind.Number (pos n)))) (le-ltb 9223372036854775807 n small) in
    let Goal : Result (TokenKind × ℕ) LexRefusal → Type 0 = λ z. z ≡ Ok (TokenKind.Number (pos n), at + length (b ∷ q)) in
    cond_both (begins_name b) _ _ Goal (λ t. absurd (false≢true (sym (digit_begins_none b digit) ∙ t)))
    (λ _. cond_both (is_ascii_digit b) _ _ Goal
    (λ _. ap (λ (digits : List ℕ). and_then (number at (number_of digits)) (λ kind. Ok (kind, at + length digits))) whole
    ∙ ap (λ (m : ℕ). and_then (number at m) (λ kind. Ok (kind, at + length (b ∷ q)))) e
    ∙ ap (λ (r : Result TokenKind LexRefusal). and_then r (λ kind. Ok (kind, at + length (b ∷ q)))) fits)
    (λ f. absurd (false≢true (sym f ∙ digit))))

number_reads : (at n : ℕ) (s : List ℕ) (o : Option (List ℕ)) → list_all is_ascii_digit s ≡ true → number_of s ≡ n → 1 ≤ length s
    → n ≤ 9223372036854775807 → Reads at s (TokenKind.Number (pos n)) o
number_reads at n [] o h e some small = absurd (omega arith)
number_reads at n (b ∷ q) o h e some small =
    (b, q, refl, gap_digit b (q ++ behind o) (both (is_ascii_digit b) (list_all is_ascii_digit q) h).0, reads_number at b n q o h e small)

-- Texts.

closing : (quote at : ℕ) (r : List ℕ) → text_from quote at (34 ∷ r) ≡ Ok ([], at + 1)
closing quote at [] = refl
closing quote at (b ∷ r) = refl

quoted_reads : (quote at : ℕ) (content r : List ℕ) → text_from quote at (quoted content ++ 34 ∷ r) ≡ Ok (content, at + length (quoted content) + 1)
quoted_reads quote at [] r = closing quote at r ∙ ap (λ (to : ℕ). Ok ([], to)) (omega arith)
quoted_reads quote at (b ∷ content) r =
    let Goal : List ℕ → Type 0 = λ q. text_from quote at (q ++ 34 ∷ r) ≡ Ok (b ∷ content, at + length q + 1) in
    let place : at + 2 + length (quoted content) + 1 ≡ at + suc (suc (length (quoted content))) + 1 = omega arith in
    let one : (c : ℕ) → b ≡ c → ◌≡◌ {A = Result (List ℕ × ℕ) LexRefusal}
    (and_then (text_from quote (at + 2) (quoted content ++ 34 ∷ r)) (with_byte c))
    (Ok (b ∷ content, at + suc (suc (length (quoted content))) + 1)) =
    λ c e. ap (λ (x : Result (List ℕ × ℕ) LexRefusal). and_then x (with_byte c)) (quoted_reads quote (at + 2) content r)
    ∙ ap (λ (x : ℕ). Ok (x ∷ content, at + 2 + length (quoted content) + 1)) (sym e) ∙ ap (λ (to : ℕ). Ok (b ∷ content, to)) place in
    cond_both (b == 34) _ _ Goal (λ t. one 34 (eqb-true b 34 t)) (λ x.
    cond_both (b == 92) _ _ Goal (λ t. one 92 (eqb-true b 92 t)) (λ y.
    cond_both (b == 10) _ _ Goal (λ t. one 10 (eqb-true b 10 t)) (λ z.
    text_plain quote at b (quoted content ++ 34 ∷ r) (unequal b 34 x) (unequal b 10 z) (unequal b 92 y)
    ∙ ap (λ (x : Result (List ℕ × ℕ) LexRefusal). and_then x (with_byte b)) (quoted_reads quote (at + 1) content r)
    ∙ ap (λ (to : ℕ). Ok (b ∷ content, to)) (omega arith))))

text_reads : (at : ℕ) (content : List ℕ) (o : Option (List ℕ)) → Reads at (34 ∷ quoted content ++ 34 ∷ []) (TokenKind.Text content) o
text_reads at content o =
    let q = quoted content ++ 34 ∷ [] in
    let len : length q ≡ length (quoted content) + 1 = length-append (quoted content) (34 ∷ []) in
    let rest : text_from at (at + 1) (q ++ behind o) ≡ Ok (content, at + 1 + length (quoted content) + 1) =
    ap (text_from at (at + 1)) (append_assoc (quoted content) (34 ∷ []) (behind o)) ∙ quoted_reads at (at + 1) content (behind o) in (
      34,
      q,
      refl,
      omega arith,
      ap (λ (x : Result (List ℕ × ℕ) LexRefusal). and_then x (λ text. Ok (TokenKind.Text text.0, text.1))) rest
          ∙ ap (λ (to : ℕ). Ok (TokenKind.Text content, to)) (omega arith),
    )

-- Tokens.

kind_reads : (at : ℕ) (kind : TokenKind) (o : Option (List ℕ)) → IsKind kind → Reads at (spell kind) kind o
kind_reads at (TokenKind.Name name) o h = name_reads at name o h
kind_reads at (TokenKind.Number (pos n)) o h = number_reads at n (decimal n) o (decimal_digits n) (decimal_value n) (decimal_some n) h
kind_reads at (TokenKind.Number (negsuc n)) o h = absurd h
kind_reads at (TokenKind.Text content) o h = text_reads at content o
kind_reads at (TokenKind.Word w) o h = word_reads at w o
kind_reads at (TokenKind.Sign s) o h = sign_reads at s o

one_read : (bytes : List ℕ) (at : ℕ) (s : List ℕ) (kind : TokenKind) (o : Option (List ℕ)) → Reads at s kind o
    → tokens_from bytes at 0 (s ++ behind o) ≡ and_then (tokens_from bytes (at + length s) 0 (behind o))
    (λ more. Ok (token_of bytes at kind (at + length s) ∷ more))
one_read bytes at s kind o h =
    let b = h.0 in
    let q = h.1 in
    let left : drop (at + length s - at) (b ∷ (q ++ behind o)) ≡ behind o =
    ap (λ (x : List ℕ). drop (at + length s - at) (x ++ behind o)) (sym h.2) ∙ drop_at s (behind o) (at + length s - at) (omega arith) in
    ap (λ (x : List ℕ). tokens_from bytes at 0 (x ++ behind o)) h.2 ∙ at_token bytes at b (q ++ behind o) (kind, at + length s) h.3 h.4
    ∙ ap (λ (x : List ℕ). and_then (tokens_from bytes (at + length s) 0 x) (λ more. Ok (token_of bytes at kind (at + length s) ∷ more))) left

again : (bytes : List ℕ) (ks : List TokenKind) → AreKinds ks → (at : ℕ) → (ts : List Token) × (tokens_from bytes at 0 (spelled_out ks) ≡ Ok ts)
    × (map (λ t. t.kind) ts ≡ ks)
again bytes [] h at = ([], refl, refl)
again bytes (k ∷ []) h at = (
  token_of bytes at k (at + length (spell k)) ∷ [],
  ap (tokens_from bytes at 0) (sym (append-nil (spell k)))
      ∙ one_read bytes at (spell k) k None (kind_reads at k None h.0),
  refl,
)
again bytes (k ∷ k2 ∷ ks) h at =
    let more = spelled_out (k2 ∷ ks) in
    let rest = again bytes (k2 ∷ ks) h.1 (at + length (spell k) + 1) in (
      token_of bytes at k (at + length (spell k)) ∷ rest.0,
      one_read bytes at (spell k) k (Some more) (kind_reads at k (Some more) h.0)
          ∙ ap (λ (x : Read). and_then x (λ more. Ok (token_of bytes at k (at + length (spell k)) ∷ more))) rest.1,
      ap (λ (x : List TokenKind). k ∷ x) rest.2,
    )

pub spelled_out_again : SpelledOutAgain
spelled_out_again ks h =
    let read = again (spelled_out ks) ks h 0 in
    (read.0, of_utf8 (spelled_out ks) (spelled_utf8 ks h) ∙ read.1, read.2)

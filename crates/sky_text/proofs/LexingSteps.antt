-- Reading the pieces of a script one after the other.
use Rattle.std.proofs.Common.{◌≡◌, ℕ, zero, suc, ◌+◌, ◌-◌, ◌≤◌, ◌<◌, Bool, true, false, cond, List, [], ◌∷◌, ◌++◌, length, drop, Result, Ok, Err}
use Rattle.std.proofs.Common.{refl, sym, ap, ◌∙◌, arith, append_assoc}
use Rattle.std.specs.Prelude.{◌==◌, nat_lt}
use Rattle.std.specs.Str.{IsUtf8}
use Rattle.std.specs.Str.Lossy.{utf8_valid_len}
use Rattle.std.proofs.lemmas.Bool.{cond_both, eqb-true, false_from_ne_true, le-ltb, lt-ltb}
use Rattle.std.proofs.lemmas.Bool.Decides.{nat_tests}
use Rattle.std.proofs.lemmas.List.{append-nil}
use Rattle.std.proofs.lemmas.Str.{utf8_valid_len-IsUtf8}
use Rattle.sky_text.specs.Lexing.{and_then, gap_len, token_at, token_of, tokens_from, tokens_of}
use Rattle.sky_text.specs.declared.token.TokenKind.{TokenKind}
use Rattle.sky_text.specs.declared.token.Token.{Token}
use Rattle.sky_text.specs.declared.lex.LexRefusal.{LexRefusal}
use Rattle.sky_text.proofs.Spans.{token_span}

abbrev pub Read : Type 0
Read = Result (List Token) LexRefusal

-- the bytes that were read already are passed over
pub pass_over : (bytes : List ℕ) (at n : ℕ) (rest : List ℕ) → n ≤ length rest → tokens_from bytes at n rest
    ≡ tokens_from bytes (at + n) 0 (drop n rest)
pass_over bytes at zero rest h = let e : at + 0 ≡ at = omega arith in rw e refl
pass_over bytes at (suc n) [] h = absurd (omega arith)
pass_over bytes at (suc n) (b ∷ r) h = let e : at + suc n ≡ (at + 1) + n = omega arith in rw e (pass_over bytes (at + 1) n r (omega arith))

-- tokens that were read before, in front of the rest
abbrev pub with_tokens : List Token → Read → Read
with_tokens front read = and_then read (λ more. Ok (front ++ more))

-- what is left at a gap is what is left behind it
pub at_gap : (bytes : List ℕ) (at b : ℕ) (r : List ℕ) → 0 < gap_len b r → gap_len b r ≤ suc (length r) → tokens_from bytes at 0 (b ∷ r)
    ≡ tokens_from bytes (at + gap_len b r) 0 (drop (gap_len b r) (b ∷ r))
at_gap bytes at b r h g =
    let n = gap_len b r - 1 in
    let one : gap_len b r ≡ suc n = omega arith in
    let place : (at + 1) + n ≡ at + gap_len b r = omega arith in
    let some : nat_lt 0 (gap_len b r) ≡ true = lt-ltb 0 (gap_len b r) h in
    ap (λ (x : Bool). cond x (tokens_from bytes (at + 1) n r)
    (and_then (token_at at b r) (λ found. and_then (tokens_from bytes (at + 1) (found.1 - (at + 1)) r)
    (λ more. Ok (token_of bytes at found.0 found.1 ∷ more))))) some
    ∙ pass_over bytes (at + 1) n r (omega arith) ∙ ap (λ (x : ℕ). tokens_from bytes x 0 (drop n r)) place
    ∙ ap (λ (x : ℕ). tokens_from bytes (at + gap_len b r) 0 (drop x (b ∷ r))) (sym one)

no_gap : (bytes : List ℕ) (at b : ℕ) (r : List ℕ) → gap_len b r ≤ 0 → tokens_from bytes at 0 (b ∷ r)
    ≡ and_then (token_at at b r) (λ found. and_then (tokens_from bytes (at + 1) (found.1 - (at + 1)) r)
    (λ more. Ok (token_of bytes at found.0 found.1 ∷ more)))
no_gap bytes at b r h =
    ap (λ (x : Bool). cond x (tokens_from bytes (at + 1) (gap_len b r - 1) r)
    (and_then (token_at at b r) (λ found. and_then (tokens_from bytes (at + 1) (found.1 - (at + 1)) r)
    (λ more. Ok (token_of bytes at found.0 found.1 ∷ more))))) (le-ltb 0 (gap_len b r) h)

-- a token, and what is left behind it
pub at_token : (bytes : List ℕ) (at b : ℕ) (r : List ℕ) (found : TokenKind × ℕ) → gap_len b r ≤ 0 → token_at at b r ≡ Ok found
    → tokens_from bytes at 0 (b ∷ r) ≡ and_then (tokens_from bytes found.1 0 (drop (found.1 - at) (b ∷ r)))
    (λ more. Ok (token_of bytes at found.0 found.1 ∷ more))
at_token bytes at b r found h e =
    let span = token_span at b r found e in
    let n = found.1 - (at + 1) in
    let one : found.1 - at ≡ suc n = omega (arith, span.1) in
    let place : (at + 1) + n ≡ found.1 = omega (arith, span.1) in
    let rest : tokens_from bytes (at + 1) n r ≡ tokens_from bytes found.1 0 (drop (found.1 - at) (b ∷ r)) =
    pass_over bytes (at + 1) n r (omega (arith, span.1, span.2)) ∙ ap (λ (x : ℕ). tokens_from bytes x 0 (drop n r)) place
    ∙ ap (λ (x : ℕ). tokens_from bytes found.1 0 (drop x (b ∷ r))) (sym one) in
    no_gap bytes at b r h ∙ ap (λ (x : Result (TokenKind × ℕ) LexRefusal). and_then x
    (λ found. and_then (tokens_from bytes (at + 1) (found.1 - (at + 1)) r) (λ more. Ok (token_of bytes at found.0 found.1 ∷ more)))) e
    ∙ ap (λ (x : Read). and_then x (λ more. Ok (token_of bytes at found.0 found.1 ∷ more))) rest

-- a refusal
pub at_refusal : (bytes : List ℕ) (at b : ℕ) (r : List ℕ) (e : LexRefusal) → gap_len b r ≤ 0 → token_at at b r ≡ Err e
    → tokens_from bytes at 0 (b ∷ r) ≡ Err e
at_refusal bytes at b r e h k = no_gap bytes at b r h
    ∙ ap (λ (x : Result (TokenKind × ℕ) LexRefusal). and_then x
    (λ found. and_then (tokens_from bytes (at + 1) (found.1 - (at + 1)) r) (λ more. Ok (token_of bytes at found.0 found.1 ∷ more)))) k

pub with_none : (front : List Token) (read : Read) → front ≡ [] → with_tokens front read ≡ read
with_none front (Ok ts) e = rw e refl
with_none front (Err x) e = refl

pub with_one_more : (front : List Token) (t : Token) (read : Read) → with_tokens front (and_then read (λ more. Ok (t ∷ more)))
    ≡ with_tokens (front ++ t ∷ []) read
with_one_more front t (Ok ts) = ap Ok (sym (append_assoc front (t ∷ []) ts))
with_one_more front t (Err x) = refl

-- The loop: what was read, and the tokens of what is left, are all of them.

pub keeps_gap : (bytes rest : List ℕ) (front : List Token) (at b : ℕ) (r : List ℕ) (all : Read) → rest ≡ b ∷ r → 0 < gap_len b r
    → gap_len b r ≤ suc (length r) → with_tokens front (tokens_from bytes at 0 rest) ≡ all
    → with_tokens front (tokens_from bytes (at + gap_len b r) 0 (drop (gap_len b r) rest)) ≡ all
keeps_gap bytes rest front at b r all e h g left =
    ap (λ (x : List ℕ). with_tokens front (tokens_from bytes (at + gap_len b r) 0 (drop (gap_len b r) x))) e
    ∙ ap (with_tokens front) (sym (at_gap bytes at b r h g)) ∙ ap (λ (x : List ℕ). with_tokens front (tokens_from bytes at 0 x)) (sym e)
    ∙ left

pub keeps_token : (bytes rest : List ℕ) (front : List Token) (at b : ℕ) (r : List ℕ) (found : TokenKind × ℕ) (t : Token) (all : Read) → rest ≡ b
    ∷ r → gap_len b r ≤ 0 → token_at at b r ≡ Ok found → t ≡ token_of bytes at found.0 found.1
    → with_tokens front (tokens_from bytes at 0 rest) ≡ all
    → with_tokens (front ++ t ∷ []) (tokens_from bytes found.1 0 (drop (found.1 - at) rest)) ≡ all
keeps_token bytes rest front at b r found t all e h k same left =
    ap (λ (x : List ℕ). with_tokens (front ++ t ∷ []) (tokens_from bytes found.1 0 (drop (found.1 - at) x))) e
    ∙ ap (λ (x : Token). with_tokens (front ++ x ∷ []) (tokens_from bytes found.1 0 (drop (found.1 - at) (b ∷ r)))) same
    ∙ sym (with_one_more front (token_of bytes at found.0 found.1) (tokens_from bytes found.1 0 (drop (found.1 - at) (b ∷ r))))
    ∙ ap (with_tokens front) (sym (at_token bytes at b r found h k))
    ∙ ap (λ (x : List ℕ). with_tokens front (tokens_from bytes at 0 x)) (sym e) ∙ left

pub keeps_refusal : (bytes rest : List ℕ) (front : List Token) (at b : ℕ) (r : List ℕ) (x : LexRefusal) (all : Read) → rest ≡ b ∷ r
    → gap_len b r ≤ 0 → token_at at b r ≡ Err x → with_tokens front (tokens_from bytes at 0 rest) ≡ all → all ≡ Err x
keeps_refusal bytes rest front at b r x all e h k left = sym left ∙ ap (λ (y : List ℕ). with_tokens front (tokens_from bytes at 0 y)) e
    ∙ ap (with_tokens front) (at_refusal bytes at b r x h k)

pub keeps_end : (bytes rest : List ℕ) (front : List Token) (at : ℕ) (all : Read) → rest ≡ [] → with_tokens front (tokens_from bytes at 0 rest)
    ≡ all → all ≡ Ok front
keeps_end bytes rest front at all e left = sym left ∙ ap (λ (y : List ℕ). with_tokens front (tokens_from bytes at 0 y)) e ∙ ap Ok (append-nil front)

-- The whole script.

eqb_same : (n : ℕ) → (n == n) ≡ true
eqb_same n = grind (arith, nat_tests)

pub of_utf8 : (bytes : List ℕ) → IsUtf8 bytes → tokens_of bytes ≡ tokens_from bytes 0 0 bytes
unfolding tokens_of
of_utf8 bytes u = let all : (utf8_valid_len bytes == length bytes) ≡ true = rw (utf8_valid_len-IsUtf8 bytes u) (eqb_same (length bytes)) in
    rw all refl

eqb_other : (m n : ℕ) → ¬ (m ≡ n) → (m == n) ≡ false
eqb_other m n h = false_from_ne_true (m == n) (λ e. h (eqb-true m n e))

pub of_others : (bytes : List ℕ) (n : ℕ) → n ≡ utf8_valid_len bytes → n < length bytes → tokens_of bytes ≡ Err (LexRefusal.BadByte n)
unfolding tokens_of
of_others bytes n e h =
    let short : (utf8_valid_len bytes == length bytes) ≡ false = eqb_other (utf8_valid_len bytes) (length bytes) (λ same. omega arith) in
    rw (e, short) refl

pub from_tokens : (bytes : List ℕ) (ts : List Token) → tokens_of bytes ≡ Ok ts → tokens_from bytes 0 0 bytes ≡ Ok ts
unfolding tokens_of
from_tokens bytes ts e = cond_both (utf8_valid_len bytes == length bytes) (tokens_from bytes 0 0 bytes)
    (Err (LexRefusal.BadByte (utf8_valid_len bytes))) (λ (r : Read). r ≡ Ok ts → tokens_from bytes 0 0 bytes ≡ Ok ts) (λ _ k. k)
    (λ _ k. absurd (cc k)) e

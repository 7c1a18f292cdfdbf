-- A script has no more tokens than bytes, and no byte that is refused stands behind their end.
use Rattle.std.proofs.Common.{Vec, Global, ◌≡◌, ℕ, zero, suc, ◌+◌, ◌-◌, ◌≤◌, Bool, cond, List, [], ◌∷◌, length, Option, Some, None, Result, Ok, Err}
use Rattle.std.proofs.Common.{IfOk, IfErr, ◌⊎◌, inl, inr, subst, arith}
use Rattle.std.specs.Prelude.{◌==◌, nat_lt}
use Rattle.std.specs.Char.{is_ascii_digit}
use Rattle.std.specs.List.{take_while}
use Rattle.std.specs.Str.Lossy.{utf8_valid_len}
use Rattle.std.proofs.lemmas.Bool.{cond_both}
use Rattle.std.proofs.lemmas.Str.{utf8_valid_len_le}
use Rattle.sky_text.specs.Lexing.{and_then, with_byte, unescaped, is_escape, named, number, number_of, begins_name, goes_on_name, gap_len, text_from}
use Rattle.sky_text.specs.Lexing.{text_at, short_or_bad, long_or_short, sign_at, token_at, token_of, tokens_from, tokens_of, byte_of}
use Rattle.sky_text.specs.Words.{short_sign, long_sign}
use Rattle.sky_text.specs.declared.token.Sign.{Sign}
use Rattle.sky_text.specs.declared.token.TokenKind.{TokenKind}
use Rattle.sky_text.specs.declared.token.Token.{Token}
use Rattle.sky_text.specs.declared.lex.LexRefusal.{LexRefusal}

-- a refusal stands at this byte or before it
abbrev Refuses : {A : Type 0} → ℕ → Result A LexRefusal → Type 0
Refuses end (Ok a) = Unit {0}
Refuses end (Err e) = byte_of e ≤ end

goes_on : {A B : Type 0} (end : ℕ) (r : Result A LexRefusal) (next : A → B) → Refuses end r → Refuses end (and_then r (λ a. Ok (next a)))
goes_on end (Ok a) next h = tt
goes_on end (Err e) next h = h

text_refuses : (end quote at : ℕ) (r : List ℕ) → quote ≤ end → at + length r ≤ end → Refuses end (text_from quote at r)
text_refuses end quote at [] q h = q
text_refuses end quote at (b ∷ []) q h = cond_both (b == 34) (Ok ([], at + 1)) (Err (LexRefusal.OpenText quote)) (λ r. Refuses end r) (λ _. tt)
    (λ _. q)
text_refuses end quote at (b ∷ c ∷ r) q h =
    let P : Result (List ℕ × ℕ) LexRefusal → Type 0 = λ x. Refuses end x in
    let plain : Result (List ℕ × ℕ) LexRefusal = and_then (text_from quote (at + 1) (c ∷ r)) (with_byte b) in
    let escaped : Result (List ℕ × ℕ) LexRefusal = and_then (text_from quote (at + 2) r) (with_byte (unescaped c)) in
    let escape : Result (List ℕ × ℕ) LexRefusal = cond (is_escape c) escaped (Err (LexRefusal.BadEscape at)) in
    let behind : Result (List ℕ × ℕ) LexRefusal = cond (c == 10) (Err (LexRefusal.OpenText quote)) escape in
    let rest : Result (List ℕ × ℕ) LexRefusal = cond (b == 92) behind plain in
    let below : at ≤ end = omega (arith, h) in
    cond_both (b == 34) (Ok ([], at + 1)) (cond (b == 10) (Err (LexRefusal.OpenText quote)) rest) P (λ _. tt) (λ _.
    cond_both (b == 10) (Err (LexRefusal.OpenText quote)) rest P (λ _. q) (λ _.
    cond_both (b == 92) behind plain P
    (λ _. cond_both (c == 10) (Err (LexRefusal.OpenText quote)) escape P (λ _. q) (λ _.
    cond_both (is_escape c) escaped (Err (LexRefusal.BadEscape at)) P
    (λ _. goes_on end (text_from quote (at + 2) r) (λ text. (unescaped c ∷ text.0, text.1))
    (text_refuses end quote (at + 2) r q (omega (arith, h)))) (λ _. below)))
    (λ _. goes_on end (text_from quote (at + 1) (c ∷ r)) (λ text. (b ∷ text.0, text.1))
    (text_refuses end quote (at + 1) (c ∷ r) q (omega (arith, h))))))

short_refuses : (end at : ℕ) (o : Option Sign) → at ≤ end → Refuses end (short_or_bad at o)
short_refuses end at (Some s) h = tt
short_refuses end at None h = h

long_refuses : (end at : ℕ) (o p : Option Sign) → at ≤ end → Refuses end (long_or_short at o p)
long_refuses end at (Some s) p h = tt
long_refuses end at None p h = short_refuses end at p h

sign_refuses : (end at b : ℕ) (r : List ℕ) → at ≤ end → Refuses end (sign_at at b r)
sign_refuses end at b [] h = short_refuses end at (short_sign b) h
sign_refuses end at b (c ∷ r) h = long_refuses end at (long_sign b c) (short_sign b) h

number_refuses : (end at n : ℕ) → at ≤ end → Refuses end (number at n)
number_refuses end at n h = cond_both (nat_lt 9223372036854775807 n) (Err (LexRefusal.BigNumber at)) _ (λ r. Refuses end r) (λ _. h) (λ _. tt)

token_refuses : (at b : ℕ) (r : List ℕ) → Refuses (at + suc (length r)) (token_at at b r)
token_refuses at b r =
    let end : ℕ = at + suc (length r) in
    let here : at ≤ end = omega arith in
    let P : Result (TokenKind × ℕ) LexRefusal → Type 0 = λ x. Refuses end x in
    let name : List ℕ = take_while goes_on_name (b ∷ r) in
    let digits : List ℕ = take_while is_ascii_digit (b ∷ r) in
    let digit : Result (TokenKind × ℕ) LexRefusal = and_then (number at (number_of digits)) (λ kind. Ok (kind, at + length digits)) in
    let other : Result (TokenKind × ℕ) LexRefusal = cond (b == 34) (text_at at r) (sign_at at b r) in
    cond_both (begins_name b) (Ok (named name, at + length name)) (cond (is_ascii_digit b) digit other) P (λ _. tt) (λ _.
    cond_both (is_ascii_digit b) digit other P
    (λ _. goes_on end (number at (number_of digits)) (λ kind. (kind, at + length digits)) (number_refuses end at (number_of digits) here)) (λ _.
    cond_both (b == 34) (text_at at r) (sign_at at b r) P
    (λ _. goes_on end (text_from at (at + 1) r) (λ text. (TokenKind.Text text.0, text.1)) (text_refuses end at (at + 1) r here (omega arith)))
    (λ _. sign_refuses end at b r here)))

-- at most so many tokens, or a refusal at this byte or before it
abbrev pub Within : ℕ → ℕ → Result (List Token) LexRefusal → Type 0
Within few end (Ok ts) = length ts ≤ few
Within few end (Err e) = byte_of e ≤ end

wider : (few more end : ℕ) (r : Result (List Token) LexRefusal) → few ≤ more → Within few end r → Within more end r
wider few more end (Ok ts) h w = omega (arith, h, w)
wider few more end (Err e) h w = w

one_more : (few end : ℕ) (t : Token) (r : Result (List Token) LexRefusal) → Within few end r
    → Within (suc few) end (and_then r (λ more. Ok (t ∷ more)))
one_more few end t (Ok ts) w = omega (arith, w)
one_more few end t (Err e) w = w

then_more : (few end : ℕ) (found : Result (TokenKind × ℕ) LexRefusal) (next : TokenKind × ℕ → Result (List Token) LexRefusal)
    → Refuses end found → ((f : TokenKind × ℕ) → Within few end (next f)) → Within few end (and_then found next)
then_more few end (Ok f) next h w = w f
then_more few end (Err e) next h w = h

moved : (few at : ℕ) (n : ℕ) (r : Result (List Token) LexRefusal) → Within few ((at + 1) + n) r → Within few (at + suc n) r
moved few at n r w = let e : (at + 1) + n ≡ at + suc n = omega arith in subst (λ (x : ℕ). Within few x r) e w

within_from : (bytes : List ℕ) (at read : ℕ) (rest : List ℕ) → Within (length rest) (at + length rest) (tokens_from bytes at read rest)
within_from bytes at zero [] = omega arith
within_from bytes at (suc read) [] = omega arith
within_from bytes at (suc read) (b ∷ r) =
    moved (suc (length r)) at (length r) (tokens_from bytes (at + 1) read r)
    (wider (length r) (suc (length r)) ((at + 1) + length r) (tokens_from bytes (at + 1) read r) (omega arith) (within_from bytes (at + 1) read r))
within_from bytes at zero (b ∷ r) =
    let after : TokenKind × ℕ → Result (List Token) LexRefusal =
    λ found. and_then (tokens_from bytes (at + 1) (found.1 - (at + 1)) r) (λ more. Ok (token_of bytes at found.0 found.1 ∷ more)) in
    cond_both (nat_lt 0 (gap_len b r)) (tokens_from bytes (at + 1) (gap_len b r - 1) r) (and_then (token_at at b r) after)
    (λ x. Within (suc (length r)) (at + suc (length r)) x)
    (λ _. moved (suc (length r)) at (length r) (tokens_from bytes (at + 1) (gap_len b r - 1) r)
    (wider (length r) (suc (length r)) ((at + 1) + length r) (tokens_from bytes (at + 1) (gap_len b r - 1) r) (omega arith)
    (within_from bytes (at + 1) (gap_len b r - 1) r)))
    (λ _. then_more (suc (length r)) (at + suc (length r)) (token_at at b r) after (token_refuses at b r)
    (λ found. one_more (length r) (at + suc (length r)) (token_of bytes at found.0 found.1) (tokens_from bytes (at + 1) (found.1 - (at + 1)) r)
    (moved (length r) at (length r) (tokens_from bytes (at + 1) (found.1 - (at + 1)) r) (within_from bytes (at + 1) (found.1 - (at + 1)) r))))

tokens_within : (bytes : List ℕ) → Within (length bytes) (length bytes) (tokens_of bytes)
unfolding tokens_of
tokens_within bytes =
    cond_both (utf8_valid_len bytes == length bytes) (tokens_from bytes 0 0 bytes) (Err (LexRefusal.BadByte (utf8_valid_len bytes)))
    (λ x. Within (length bytes) (length bytes) x)
    (λ _. let none : 0 + length bytes ≡ length bytes = omega arith in
    subst (λ (x : ℕ). Within (length bytes) x (tokens_from bytes 0 0 bytes)) none (within_from bytes 0 0 bytes))
    (λ _. utf8_valid_len_le bytes)

-- no more tokens than bytes, where this is their answer
pub few_tokens : (bytes : List ℕ) (r : Result (Vec Token Global) LexRefusal) → IfOk r (λ ts. tokens_of bytes ≡ Ok ts.items)
    → IfOk r (λ ts. length ts.items ≤ length bytes)
few_tokens bytes (Ok ts) h = subst (λ (x : Result (List Token) LexRefusal). Within (length bytes) (length bytes) x) h (tokens_within bytes)
few_tokens bytes (Err e) h = tt

-- what is refused is a byte of these, or their end
pub refused_within : {A : Type 0} (bytes : List ℕ) (r : Result A LexRefusal) → IfErr r (λ e. (e ≡ LexRefusal.Memory) ⊎ (tokens_of bytes ≡ Err e))
    → IfErr r (λ e. byte_of e ≤ length bytes)
refused_within bytes (Ok a) h = tt
refused_within bytes (Err e) (inl h) = rw h (omega arith)
refused_within bytes (Err e) (inr h) = subst (λ (x : Result (List Token) LexRefusal). Within (length bytes) (length bytes) x) h (tokens_within bytes)

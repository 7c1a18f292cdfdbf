-- The tokens of bytes: there are no more than bytes, and their places are within them.
use Rattle.std.proofs.Common.{◌≡◌, ◌≤◌, ◌+◌, ◌-◌, ℕ, zero, suc, List, [], ◌∷◌, length, Bool, true, false, cond, take, Result, Ok, Err, nat_lt, subst, arith}
use Rattle.std.proofs.lemmas.List.Sums.{count_by-le-length, suffix_len-le-length}
use Rattle.std.specs.Prelude.{not}
use Rattle.sky_base_law.specs.Tasks.{Each}
use Rattle.sky_text.specs.Lexing.{and_then, gap_len, token_at, token_of, tokens_from, tokens_of}
use Rattle.sky_text.specs.Place.{column_of, is_line_feed, line_of}
use Rattle.sky_text.specs.declared.lex.LexRefusal.{LexRefusal}
use Rattle.sky_text.specs.declared.token.Token.{Token}
use Rattle.sky_text.specs.declared.token.TokenKind.{TokenKind}

take_short : {A : Type 0} → (n : ℕ) (xs : List A) → length (take n xs) ≤ length xs
take_short zero xs = omega arith
take_short (suc n) [] = omega arith
take_short (suc n) (x ∷ xs) = let l = take_short n xs in omega (arith, l)

module _ (bytes : List ℕ) where
  abbrev Within : Token → Type 0
  Within t = (t.line ≤ length bytes + 1) × (t.col ≤ length bytes + 1)

  line_within : (at : ℕ) → line_of bytes at ≤ length bytes + 1
  line_within at =
      let few = count_by-le-length is_line_feed (take at bytes) in let l = take_short at bytes in omega (arith, few, l)

  column_within : (at : ℕ) → column_of bytes at ≤ length bytes + 1
  column_within at =
      let few = suffix_len-le-length (λ b. not (is_line_feed b)) (take at bytes) in let l = take_short at bytes in omega (arith, few, l)

  -- so many tokens at most, each within the bytes
  abbrev Few : ℕ → Result (List Token) LexRefusal → Type 0
  Few n (Ok ts) = (length ts ≤ n) × Each Within ts
  Few n (Err e) = Unit {0}

  few_more : (n : ℕ) (r : Result (List Token) LexRefusal) → Few n r → Few (suc n) r
  few_more n (Ok ts) h = let l = h.0 in (omega (arith, l), h.1)
  few_more n (Err e) h = tt

  few_then : (n : ℕ) (t : Token) (r : Result (List Token) LexRefusal) → Within t → Few n r → Few (suc n) (and_then r (λ more. Ok (t ∷ more)))
  few_then n t (Ok ts) w h = let l = h.0 in (omega (arith, l), (w, h.1))
  few_then n t (Err e) w h = tt

  few_from : (at read : ℕ) (r : List ℕ) → Few (length r) (tokens_from bytes at read r)
  few_from at read [] = (omega arith, tt)
  few_from at (suc read) (b ∷ r) = few_more (length r) (tokens_from bytes (at + 1) read r) (few_from (at + 1) read r)
  few_from at zero (b ∷ r) = pick (nat_lt 0 (gap_len b r)) (λ i. few_from (at + 1) i r)
    where
      next_few : (x : Result (TokenKind × ℕ) LexRefusal) → ((i : ℕ) → Few (length r) (tokens_from bytes (at + 1) i r))
          → Few (suc (length r)) (and_then x (λ found.
          and_then (tokens_from bytes (at + 1) (found.1 - (at + 1)) r) (λ more. Ok (token_of bytes at found.0 found.1 ∷ more))))
      next_few (Ok x) few =
          few_then (length r) (token_of bytes at x.0 x.1) (tokens_from bytes (at + 1) (x.1 - (at + 1)) r) (line_within at, column_within at)
          (few (x.1 - (at + 1)))
      next_few (Err e) few = tt

      pick : (g : Bool) → ((i : ℕ) → Few (length r) (tokens_from bytes (at + 1) i r))
          → Few (suc (length r)) (cond g (tokens_from bytes (at + 1) (gap_len b r - 1) r) (and_then (token_at at b r) (λ found.
          and_then (tokens_from bytes (at + 1) (found.1 - (at + 1)) r) (λ more. Ok (token_of bytes at found.0 found.1 ∷ more)))))
      pick true few = few_more (length r) (tokens_from bytes (at + 1) (gap_len b r - 1) r) (few (gap_len b r - 1))
      pick false few = next_few (token_at at b r) few

  all_few : Few (length bytes) (tokens_of bytes)
  unfolding tokens_of
  all_few = pick _ _
    where
      pick : (g : Bool) (e : LexRefusal) → Few (length bytes) (cond g (tokens_from bytes 0 0 bytes) (Err e))
      pick true e = few_from 0 0 bytes
      pick false e = tt

  found : (ts : List Token) → tokens_of bytes ≡ Ok ts → (length ts ≤ length bytes) × Each Within ts
  found ts e = subst (Few (length bytes)) e all_few

  pub few_tokens : (ts : List Token) → tokens_of bytes ≡ Ok ts → length ts ≤ length bytes
  few_tokens ts e = (found ts e).0

  pub tokens_within : (ts : List Token) → tokens_of bytes ≡ Ok ts → Each Within ts
  tokens_within ts e = (found ts e).1

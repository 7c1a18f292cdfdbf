-- The nodes of a script that bytes are are at most as wide as there are bytes.
use Rattle.std.proofs.Common.{◌≡◌, ◌≤◌, ◌<◌, ◌+◌, ◌^◌, ℕ, suc, List, [], ◌∷◌, ◌++◌, length, Some, pos, negsuc, subst, arith}
use Rattle.std.proofs.lemmas.List.{length-append}
use Rattle.sky_base.specs.Tree.{Script}
use Rattle.sky_base_law.specs.Nodes.{node_at}
use Rattle.sky_text.specs.Parts.{AreParts, Part, Spells, gap, joined, token, tokens_in}
use Rattle.sky_text.specs.Spelling.{sign_text, word_text}
use Rattle.sky_text.specs.declared.token.Sign.{Sign}
use Rattle.sky_text.specs.declared.token.Word.{Word}
use Rattle.sky_text.specs.declared.token.Token.{Token}
use Rattle.sky_text.specs.declared.token.TokenKind.{TokenKind}
use Rattle.sky_text.proofs.PartsLaw.{gaps_and_tokens}
use Rattle.sky_parse_grammar.specs.Grammar.{Mark, Follows}
use Rattle.sky_parse_grammar.specs.Tops.{spell_tops}
use Rattle.sky_parse.specs.Source.{IsScript}
use Rattle.sky_machine.specs.Width.{width, Narrow}
use Rattle.sky_machine.proofs.Widths.{wide_script}

follows_length : (ms : List Mark) (ts : List Token) → Follows ms ts → length ms ≡ length ts
follows_length [] [] h = omega arith
follows_length [] (t ∷ ts) h = absurd h
follows_length (m ∷ ms) [] h = absurd h
follows_length (m ∷ ms) (t ∷ ts) h = omega (arith, follows_length ms ts h.1)

-- ---- a token has some byte

word_some : (w : Word) → 1 ≤ length (word_text w)
word_some Word.Function = omega arith
word_some Word.Return = omega arith
word_some Word.If = omega arith
word_some Word.Else = omega arith
word_some Word.While = omega arith
word_some Word.Do = omega arith
word_some Word.For = omega arith
word_some Word.In = omega arith
word_some Word.True = omega arith
word_some Word.False = omega arith
word_some Word.Null = omega arith
word_some Word.Spawn = omega arith
word_some Word.SpawnExec = omega arith
word_some Word.Exec = omega arith
word_some Word.Ref = omega arith
word_some Word.Len = omega arith
word_some Word.Keys = omega arith
word_some Word.Has = omega arith
word_some Word.Range = omega arith

sign_some : (s : Sign) → 1 ≤ length (sign_text s)
sign_some Sign.OpenRound = omega arith
sign_some Sign.CloseRound = omega arith
sign_some Sign.OpenCurly = omega arith
sign_some Sign.CloseCurly = omega arith
sign_some Sign.OpenSquare = omega arith
sign_some Sign.CloseSquare = omega arith
sign_some Sign.Comma = omega arith
sign_some Sign.Semicolon = omega arith
sign_some Sign.Colon = omega arith
sign_some Sign.Assign = omega arith
sign_some Sign.AddAssign = omega arith
sign_some Sign.Plus = omega arith
sign_some Sign.Minus = omega arith
sign_some Sign.Star = omega arith
sign_some Sign.Slash = omega arith
sign_some Sign.Percent = omega arith
sign_some Sign.Not = omega arith
sign_some Sign.Equal = omega arith
sign_some Sign.NotEqual = omega arith
sign_some Sign.Less = omega arith
sign_some Sign.LessEqual = omega arith
sign_some Sign.Greater = omega arith
sign_some Sign.GreaterEqual = omega arith
sign_some Sign.And = omega arith
sign_some Sign.Or = omega arith

token_some : (kind : TokenKind) (s : List ℕ) → Spells s kind → 1 ≤ length s
token_some (TokenKind.Name []) s h = absurd h.1
token_some (TokenKind.Name (b ∷ name)) s h = let same : length s ≡ suc (length name) = (λ i. length (h.0 i)) in omega (arith, same)
token_some (TokenKind.Number (pos n)) s h = omega (arith, h.0)
token_some (TokenKind.Number (negsuc n)) s h = absurd h
token_some (TokenKind.Text content) s (q, e, quotes) = let same : length s ≡ suc (length (q ++ 34 ∷ [])) = (λ i. length (e i)) in omega (arith, same)
token_some (TokenKind.Word w) s h = let same : length s ≡ length (word_text w) = (λ i. length (h i)) in omega (arith, same, word_some w)
token_some (TokenKind.Sign g) s h = let same : length s ≡ length (sign_text g) = (λ i. length (h i)) in omega (arith, same, sign_some g)

-- so there are at most as many tokens as bytes
few_tokens : (bytes : List ℕ) (at : ℕ) (parts : List Part) → AreParts parts → length (tokens_in bytes at parts) ≤ length (joined parts)
few_tokens bytes at [] h = omega arith
few_tokens bytes at (gap g ∷ more) h = omega (arith, length-append g (joined more), few_tokens bytes (at + length g) more h.1)
few_tokens bytes at (token s kind ∷ more) h =
    omega (arith, length-append s (joined more), token_some kind s h.0, few_tokens bytes (at + length s) more h.1)

pub script_narrow : (source : List ℕ) (keys : List (List ℕ)) (script : Script) → IsScript source keys script → length source < 2 ^ 31 → Narrow script
script_narrow source keys script (ts, tops, found, valid, is) small n t at =
    let law = gaps_and_tokens source ts found in
    let marks : length (spell_tops tops []) ≡ length ts = follows_length (spell_tops tops []) ts valid.0.1 in
    let as_tokens : length ts ≡ length (tokens_in source 0 law.0) = (λ i. length (law.3 i)) in
    let as_parts : length source ≡ length (joined law.0) = (λ i. length (law.2 i)) in
    let enough : length (spell_tops tops []) ≤ length source = omega (arith, marks, as_tokens, as_parts, few_tokens source 0 law.0 law.1) in
    let few : length source < 2147483648 = small in
    let wide : width t ≤ length source = wide_script (length source) keys tops valid.0.0 enough n t
    (subst (λ (sc : Script). node_at sc n ≡ Some t) is at) in
    let fits : width t + 2 < 4294967296 = omega (arith, wide, few) in
    fits

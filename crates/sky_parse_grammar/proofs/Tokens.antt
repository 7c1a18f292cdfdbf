-- A token that is a sign is that sign.
use Rattle.std.proofs.Common.{◌≡◌, ℕ, zero, suc, true, List, [], ◌∷◌, refl, sym, ap, ◌∙◌}
use Rattle.std.specs.Prelude.{◌==◌}
use Rattle.std.proofs.lemmas.Bool.{eqb-true}
use Rattle.sky_text.specs.declared.token.Sign.{Sign}
use Rattle.sky_text.specs.declared.token.Word.{Word}
use Rattle.sky_text.specs.declared.token.TokenKind.{TokenKind}
use Rattle.sky_parse_grammar.specs.Signs.{sign_code, word_code, is, is_word}

nth : {A : Type 0} → ℕ → List A → A → A
nth n [] d = d
nth zero (x ∷ xs) d = x
nth (suc n) (x ∷ xs) d = nth n xs d

sign_decode : ℕ → Sign
unfolding nth
sign_decode n = nth n (Sign.OpenRound ∷ Sign.CloseRound ∷ Sign.OpenCurly ∷ Sign.CloseCurly ∷ Sign.OpenSquare ∷ Sign.CloseSquare ∷ Sign.Comma
    ∷ Sign.Semicolon ∷ Sign.Colon ∷ Sign.Assign ∷ Sign.AddAssign ∷ Sign.Plus ∷ Sign.Minus ∷ Sign.Star ∷ Sign.Slash ∷ Sign.Percent ∷ Sign.Not
    ∷ Sign.Equal ∷ Sign.NotEqual ∷ Sign.Less ∷ Sign.LessEqual ∷ Sign.Greater ∷ Sign.GreaterEqual ∷ Sign.And ∷ Sign.Or ∷ []) Sign.OpenRound

sign_decoded : (s : Sign) → sign_decode (sign_code s) ≡ s
unfolding sign_decode nth
sign_decoded Sign.OpenRound = refl
sign_decoded Sign.CloseRound = refl
sign_decoded Sign.OpenCurly = refl
sign_decoded Sign.CloseCurly = refl
sign_decoded Sign.OpenSquare = refl
sign_decoded Sign.CloseSquare = refl
sign_decoded Sign.Comma = refl
sign_decoded Sign.Semicolon = refl
sign_decoded Sign.Colon = refl
sign_decoded Sign.Assign = refl
sign_decoded Sign.AddAssign = refl
sign_decoded Sign.Plus = refl
sign_decoded Sign.Minus = refl
sign_decoded Sign.Star = refl
sign_decoded Sign.Slash = refl
sign_decoded Sign.Percent = refl
sign_decoded Sign.Not = refl
sign_decoded Sign.Equal = refl
sign_decoded Sign.NotEqual = refl
sign_decoded Sign.Less = refl
sign_decoded Sign.LessEqual = refl
sign_decoded Sign.Greater = refl
sign_decoded Sign.GreaterEqual = refl
sign_decoded Sign.And = refl
sign_decoded Sign.Or = refl

same_sign : (a b : Sign) → (sign_code a == sign_code b) ≡ true → a ≡ b
same_sign a b e = sym (sign_decoded a) ∙ ap sign_decode (eqb-true _ _ e) ∙ sign_decoded b

word_decode : ℕ → Word
unfolding nth
word_decode n = nth n (Word.Function ∷ Word.Return ∷ Word.If ∷ Word.Else ∷ Word.While ∷ Word.Do ∷ Word.For ∷ Word.In ∷ Word.True ∷ Word.False
    ∷ Word.Null ∷ Word.Spawn ∷ Word.SpawnExec ∷ Word.Exec ∷ Word.Ref ∷ Word.Len ∷ Word.Keys ∷ Word.Has ∷ Word.Range ∷ []) Word.Function

word_decoded : (s : Word) → word_decode (word_code s) ≡ s
unfolding word_decode nth
word_decoded Word.Function = refl
word_decoded Word.Return = refl
word_decoded Word.If = refl
word_decoded Word.Else = refl
word_decoded Word.While = refl
word_decoded Word.Do = refl
word_decoded Word.For = refl
word_decoded Word.In = refl
word_decoded Word.True = refl
word_decoded Word.False = refl
word_decoded Word.Null = refl
word_decoded Word.Spawn = refl
word_decoded Word.SpawnExec = refl
word_decoded Word.Exec = refl
word_decoded Word.Ref = refl
word_decoded Word.Len = refl
word_decoded Word.Keys = refl
word_decoded Word.Has = refl
word_decoded Word.Range = refl

same_word : (a b : Word) → (word_code a == word_code b) ≡ true → a ≡ b
same_word a b e = sym (word_decoded a) ∙ ap word_decode (eqb-true _ _ e) ∙ word_decoded b

pub is_sign : (s : Sign) (d : TokenKind) → is s d ≡ true → d ≡ TokenKind.Sign s
is_sign s (TokenKind.Name x) e = absurd cc
is_sign s (TokenKind.Number n) e = absurd cc
is_sign s (TokenKind.Text x) e = absurd cc
is_sign s (TokenKind.Word w) e = absurd cc
is_sign s (TokenKind.Sign r) e = ap TokenKind.Sign (same_sign r s e)

pub is_that_word : (w : Word) (d : TokenKind) → is_word w d ≡ true → d ≡ TokenKind.Word w
is_that_word w (TokenKind.Name x) e = absurd cc
is_that_word w (TokenKind.Number n) e = absurd cc
is_that_word w (TokenKind.Text x) e = absurd cc
is_that_word w (TokenKind.Word v) e = ap TokenKind.Word (same_word v w e)
is_that_word w (TokenKind.Sign r) e = absurd cc

pub ruleset tokens = (is_sign, is_that_word)

-- How tokens are spelled, and two laws of the definition of a script's tokens: tokens that are spelled
-- out with a blank between them are those tokens again, and the tokens of a script and the gaps
-- between them are all of its bytes.
use Rattle.std.specs.Prelude.{◌≡◌, ℕ, ◌+◌, ◌≤◌, ◌==◌, if◌then◌else◌, true, pos, negsuc, List, [], ◌∷◌, ◌++◌, map, None, Ok, codes}
use Rattle.std.specs.Int.Digits.{digits_of}
use Rattle.std.specs.List.{list_all, join_with_byte}
use Rattle.std.specs.Str.{IsUtf8}
use Rattle.sky_text.specs.Lexing.{begins_name, goes_on_name, tokens_of}
use Rattle.sky_text.specs.Words.{word_of}
use Rattle.sky_text.specs.declared.token.Word.{Word}
use Rattle.sky_text.specs.declared.token.Sign.{Sign}
use Rattle.sky_text.specs.declared.token.TokenKind.{TokenKind}
use Rattle.sky_text.specs.declared.token.Token.{Token}

abbrev pub word_text : Word → List ℕ
word_text Word.Function = codes "function"
word_text Word.Return = codes "return"
word_text Word.If = codes "if"
word_text Word.Else = codes "else"
word_text Word.While = codes "while"
word_text Word.Do = codes "do"
word_text Word.For = codes "for"
word_text Word.In = codes "in"
word_text Word.True = codes "true"
word_text Word.False = codes "false"
word_text Word.Null = codes "null"
word_text Word.Spawn = codes "spawn"
word_text Word.SpawnExec = codes "spawn_exec"
word_text Word.Exec = codes "exec"
word_text Word.Ref = codes "ref"
word_text Word.Len = codes "len"
word_text Word.Keys = codes "keys"
word_text Word.Has = codes "has"
word_text Word.Range = codes "range"

abbrev pub sign_text : Sign → List ℕ
sign_text Sign.OpenRound = codes "("
sign_text Sign.CloseRound = codes ")"
sign_text Sign.OpenCurly = codes "{"
sign_text Sign.CloseCurly = codes "}"
sign_text Sign.OpenSquare = codes "["
sign_text Sign.CloseSquare = codes "]"
sign_text Sign.Comma = codes ","
sign_text Sign.Semicolon = codes ";"
sign_text Sign.Colon = codes ":"
sign_text Sign.Assign = codes "="
sign_text Sign.AddAssign = codes "+="
sign_text Sign.Plus = codes "+"
sign_text Sign.Minus = codes "-"
sign_text Sign.Star = codes "*"
sign_text Sign.Slash = codes "/"
sign_text Sign.Percent = codes "%"
sign_text Sign.Not = codes "!"
sign_text Sign.Equal = codes "=="
sign_text Sign.NotEqual = codes "!="
sign_text Sign.Less = codes "<"
sign_text Sign.LessEqual = codes "<="
sign_text Sign.Greater = codes ">"
sign_text Sign.GreaterEqual = codes ">="
sign_text Sign.And = codes "&&"
sign_text Sign.Or = codes "||"

-- a number in decimal digits
abbrev pub decimal : ℕ → List ℕ
decimal n = if n == 0 then 48 ∷ [] else map (λ d. d + 48) (digits_of 10 n)

-- the content of a text as it stands between quotes: a quote, a backslash and a line feed as escapes
abbrev pub quoted : List ℕ → List ℕ
quoted [] = []
quoted (b ∷ r) =
    if b == 34 then 92 ∷ 34 ∷ quoted r
    else if b == 92 then 92 ∷ 92 ∷ quoted r
    else if b == 10 then 92 ∷ 110 ∷ quoted r
    else b ∷ quoted r

-- a spelling of a token's kind
abbrev pub spell : TokenKind → List ℕ
spell (TokenKind.Name name) = name
spell (TokenKind.Number (pos n)) = decimal n
spell (TokenKind.Number (negsuc n)) = []
spell (TokenKind.Text content) = 34 ∷ quoted content ++ 34 ∷ []
spell (TokenKind.Word w) = word_text w
spell (TokenKind.Sign s) = sign_text s

-- a letter or `_`, then letters, digits and `_`, and no word
abbrev pub IsName : List ℕ → Type 0
IsName [] = ⊥
IsName (b ∷ r) = (begins_name b ≡ true) × (list_all goes_on_name r ≡ true) × (word_of (b ∷ r) ≡ None)

-- what a token may be: names, numbers of 64 signed bits from 0 on, texts, words and signs
abbrev pub IsKind : TokenKind → Type 0
IsKind (TokenKind.Name name) = IsName name
IsKind (TokenKind.Number (pos n)) = n ≤ 9223372036854775807
IsKind (TokenKind.Number (negsuc n)) = ⊥
IsKind (TokenKind.Text content) = IsUtf8 content
IsKind (TokenKind.Word w) = Unit {0}
IsKind (TokenKind.Sign s) = Unit {0}

abbrev pub AreKinds : List TokenKind → Type 0
AreKinds [] = Unit {0}
AreKinds (k ∷ ks) = IsKind k × AreKinds ks

-- tokens spelled out, with a blank between each two
abbrev pub spelled_out : List TokenKind → List ℕ
spelled_out ks = join_with_byte 32 (map spell ks)

-- tokens that are spelled out are those tokens again
abbrev pub SpelledOutAgain : Type 0
SpelledOutAgain = (ks : List TokenKind) → AreKinds ks → (ts : List Token) × (tokens_of (spelled_out ks) ≡ Ok ts) × (map (λ t. t.kind) ts ≡ ks)

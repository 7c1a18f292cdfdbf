-- The words and the signs of the language.
use Rattle.std.specs.Prelude.{ℕ, ◌==◌, ◌&&◌, if◌then◌else◌, List, [], ◌∷◌, Option, Some, None, codes, length}
use Rattle.std.specs.Str.{bytes_eq}
use Rattle.sky_text.specs.declared.token.Word.{Word}
use Rattle.sky_text.specs.declared.token.Sign.{Sign}

abbrev pub words : List (List ℕ × Word)
words =
    (codes "function", Word.Function) ∷ (codes "return", Word.Return) ∷ (codes "if", Word.If) ∷ (codes "else", Word.Else)
    ∷ (codes "while", Word.While)
    ∷ (codes "do", Word.Do) ∷ (codes "for", Word.For) ∷ (codes "in", Word.In) ∷ (codes "true", Word.True) ∷ (codes "false", Word.False)
    ∷ (codes "null", Word.Null)
    ∷ (codes "spawn", Word.Spawn) ∷ (codes "spawn_exec", Word.SpawnExec) ∷ (codes "exec", Word.Exec) ∷ (codes "ref", Word.Ref)
    ∷ (codes "len", Word.Len)
    ∷ (codes "keys", Word.Keys) ∷ (codes "has", Word.Has) ∷ (codes "range", Word.Range) ∷ []

-- what a table has at some text
abbrev pub look_up : {A : Type 0} → List (List ℕ × A) → List ℕ → Option A
look_up [] text = None
look_up (entry ∷ more) text = if bytes_eq text entry.0 then Some entry.1 else look_up more text

-- those of a table whose text is so long
abbrev pub as_long : {A : Type 0} → ℕ → List (List ℕ × A) → List (List ℕ × A)
as_long n [] = []
as_long n (entry ∷ more) = if length entry.0 == n then entry ∷ as_long n more else as_long n more

-- the word that is spelled so
abbrev pub word_of : List ℕ → Option Word
word_of = look_up words

-- the sign of one byte: ( ) { } [ ] , ; : = + - * / % ! < >
abbrev pub short_sign : ℕ → Option Sign
short_sign b =
    if b == 40 then Some Sign.OpenRound
    else if b == 41 then Some Sign.CloseRound
    else if b == 123 then Some Sign.OpenCurly
    else if b == 125 then Some Sign.CloseCurly
    else if b == 91 then Some Sign.OpenSquare
    else if b == 93 then Some Sign.CloseSquare
    else if b == 44 then Some Sign.Comma
    else if b == 59 then Some Sign.Semicolon
    else if b == 58 then Some Sign.Colon
    else if b == 61 then Some Sign.Assign
    else if b == 43 then Some Sign.Plus
    else if b == 45 then Some Sign.Minus
    else if b == 42 then Some Sign.Star
    else if b == 47 then Some Sign.Slash
    else if b == 37 then Some Sign.Percent
    else if b == 33 then Some Sign.Not
    else if b == 60 then Some Sign.Less
    else if b == 62 then Some Sign.Greater
    else None

-- the sign of two bytes: == += != <= >= && ||
abbrev pub long_sign : ℕ → ℕ → Option Sign
long_sign b c =
    if c == 61 then
    (if b == 61 then Some Sign.Equal
    else if b == 43 then Some Sign.AddAssign
    else if b == 33 then Some Sign.NotEqual
    else if b == 60 then Some Sign.LessEqual
    else if b == 62 then Some Sign.GreaterEqual
    else None)
    else if b == 38 && c == 38 then Some Sign.And
    else if b == 124 && c == 124 then Some Sign.Or
    else None

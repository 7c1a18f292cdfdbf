-- What the parser answers.
use Rattle.std.specs.Prelude.{◌≡◌, ℕ, List, [], Some, None, Result, Ok, Err, Option, slice_get}
use Rattle.sky_base.specs.Tree.{Place, Script}
use Rattle.sky_base.specs.TreeView.{at}
use Rattle.sky_text.specs.declared.token.Token.{Token}
use Rattle.sky_parse_grammar.specs.Grammar.{place}
use Rattle.sky_parse_grammar.specs.Nesting.{too_nested}
use Rattle.sky_parse_grammar.specs.Tops.{Top, Spells, script_of}
use Rattle.sky_parse_grammar.specs.Reading.{IsRefused}
use Rattle.sky_parse_grammar.specs.Names.{same_names}
use Rattle.sky_parse.specs.declared.script.ParseRefusal.{ParseRefusal}

-- The script is that of functions and statements that spell the tokens, and no name stands twice.
abbrev pub IsSpelled : List (List ℕ) → List Token → Script → Type 0
IsSpelled keys ts script = (tops : List Top) × Spells tops ts × (same_names [] tops ≡ None) × (script ≡ script_of keys tops)

-- The functions and statements are a valid script: they spell the tokens, no bracket is nested too deep, and no
-- name stands twice.
abbrev pub IsValid : List Top → List Token → Type 0
IsValid tops ts = Spells tops ts × (too_nested 0 ts ≡ None) × (same_names [] tops ≡ None)

-- the answer is the script of these functions and statements, but for want of memory
abbrev pub Gives : List (List ℕ) → List Top → Result Script ParseRefusal → Type 0
Gives keys tops (Ok script) = script ≡ script_of keys tops
Gives keys tops (Err (ParseRefusal.TooNested l c)) = ⊥
Gives keys tops (Err (ParseRefusal.NoSentence l c)) = ⊥
Gives keys tops (Err (ParseRefusal.SameName l c)) = ⊥
Gives keys tops (Err ParseRefusal.Memory) = Unit {0}

-- the place of a token by its number from 0, or of the end where there is none
abbrev pub token_place : Option Token → Place → Place
token_place (Some t) end = place t
token_place None end = end

abbrev pub place_at : List Token → ℕ → Place → Place
place_at ts n end = token_place (slice_get ts n) end

-- the place of a refusal: that of the first token with which the tokens begin no sentence, or the end
abbrev pub RefusedAt : List Token → Place → Place → Type 0
RefusedAt ts end p = (n : ℕ) × IsRefused ts n × (p ≡ place_at ts n end)

-- whether a refusal says that the tokens are no sentence, exactly there: then no script spells them
abbrev pub Refused : {X : Type 0} → List Token → Place → Result X ParseRefusal → Type 0
Refused ts end (Ok x) = Unit {0}
Refused ts end (Err (ParseRefusal.TooNested l c)) = Unit {0}
Refused ts end (Err (ParseRefusal.NoSentence l c)) = RefusedAt ts end (at l c)
Refused ts end (Err (ParseRefusal.SameName l c)) = Unit {0}
Refused ts end (Err ParseRefusal.Memory) = Unit {0}

-- whether a refusal says that brackets are nested too deep, exactly there
abbrev pub Nested : {X : Type 0} → List Token → Result X ParseRefusal → Type 0
Nested ts (Ok x) = too_nested 0 ts ≡ None
Nested ts (Err (ParseRefusal.TooNested l c)) = too_nested 0 ts ≡ Some (at l c)
Nested ts (Err (ParseRefusal.NoSentence l c)) = too_nested 0 ts ≡ None
Nested ts (Err (ParseRefusal.SameName l c)) = too_nested 0 ts ≡ None
Nested ts (Err ParseRefusal.Memory) = too_nested 0 ts ≡ None

-- whether a refusal says that a name stands twice: then functions and statements spell the tokens, and it is
-- the first such name
abbrev pub Named : List Token → Result Script ParseRefusal → Type 0
Named ts (Ok x) = Unit {0}
Named ts (Err (ParseRefusal.TooNested l c)) = Unit {0}
Named ts (Err (ParseRefusal.NoSentence l c)) = Unit {0}
Named ts (Err (ParseRefusal.SameName l c)) = (tops : List Top) × Spells tops ts × (same_names [] tops ≡ Some (at l c))
Named ts (Err ParseRefusal.Memory) = Unit {0}

-- the answer is that a name stands twice, there, but for want of memory
abbrev pub IsTwice : {X : Type 0} → Place → Result X ParseRefusal → Type 0
IsTwice p (Ok x) = ⊥
IsTwice p (Err (ParseRefusal.TooNested l c)) = ⊥
IsTwice p (Err (ParseRefusal.NoSentence l c)) = ⊥
IsTwice p (Err (ParseRefusal.SameName l c)) = at l c ≡ p
IsTwice p (Err ParseRefusal.Memory) = Unit {0}

-- the answer for functions and statements that were read: that a name stands twice, or their script, but for want of memory
abbrev pub made_if : Option Place → List (List ℕ) → List Top → Result Script ParseRefusal → Type 0
made_if (Some p) keys tops r = IsTwice p r
made_if None keys tops r = Gives keys tops r

abbrev pub IsMade : List (List ℕ) → List Top → Result Script ParseRefusal → Type 0
IsMade keys tops r = made_if (same_names [] tops) keys tops r

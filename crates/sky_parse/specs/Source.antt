-- What it means that bytes are a script, and where those that have no tokens are refused.
use Rattle.std.specs.Prelude.{◌≡◌, ℕ, List, length, Ok, Err}
use Rattle.sky_base.specs.Tree.{Place, Script}
use Rattle.sky_base.specs.TreeView.{at}
use Rattle.sky_text.specs.Lexing.{tokens_of}
use Rattle.sky_text.specs.Place.{place_of}
use Rattle.sky_text.specs.declared.lex.LexRefusal.{LexRefusal}
use Rattle.sky_text.specs.declared.token.Token.{Token}
use Rattle.sky_parse_grammar.specs.Tops.{Top, script_of}
use Rattle.sky_parse.specs.Parsed.{IsValid}

-- the bytes are a script that may name inputs by these keys: they have tokens, and these are those of functions and
-- statements of the grammar, with no bracket too deep and no name twice
abbrev pub IsScript : List ℕ → List (List ℕ) → Script → Type 0
IsScript source keys script =
    (ts : List Token) × (tops : List Top) × (tokens_of source ≡ Ok ts) × IsValid tops ts × (script ≡ script_of keys tops)

-- the bytes are refused so before they have tokens, at the byte of this place
abbrev pub NoTokens : (ℕ → LexRefusal) → List ℕ → ℕ → ℕ → Type 0
NoTokens refusal source line col = (byte : ℕ) × (tokens_of source ≡ Err (refusal byte)) × (place_of source byte ≡ (line, col))

-- the place behind the last byte
abbrev pub end_of : List ℕ → Place
end_of source = at (place_of source (length source)).0 (place_of source (length source)).1

-- Which bytes are no script, why and where.
use Rattle.std.specs.Prelude.{◌≡◌, ℕ, List, [], Some, None, Ok}
use Rattle.sky_base.specs.TreeView.{at}
use Rattle.sky_text.specs.Lexing.{tokens_of}
use Rattle.sky_text.specs.declared.lex.LexRefusal.{LexRefusal}
use Rattle.sky_text.specs.declared.token.Token.{Token}
use Rattle.sky_parse_grammar.specs.Names.{same_names}
use Rattle.sky_parse_grammar.specs.Nesting.{too_nested}
use Rattle.sky_parse.specs.Parsed.{RefusedAt}
use Rattle.sky_parse.specs.Source.{NoTokens, end_of}
use Rattle.sky_parse_grammar.specs.Tops.{Top, Spells}
use Rattle.ciel_run_load.specs.declared.script.SyntaxKind.{SyntaxKind}

-- the bytes are no script: their first refusal is of this kind, at this line and column
abbrev pub IsSyntaxFault : List ℕ → SyntaxKind → ℕ → ℕ → Type 0
IsSyntaxFault source SyntaxKind.BadByte line col = NoTokens (λ byte. LexRefusal.BadByte byte) source line col
IsSyntaxFault source SyntaxKind.OpenText line col = NoTokens (λ byte. LexRefusal.OpenText byte) source line col
IsSyntaxFault source SyntaxKind.BadEscape line col = NoTokens (λ byte. LexRefusal.BadEscape byte) source line col
IsSyntaxFault source SyntaxKind.BigNumber line col = NoTokens (λ byte. LexRefusal.BigNumber byte) source line col
IsSyntaxFault source SyntaxKind.TooNested line col =
    (ts : List Token) × (tokens_of source ≡ Ok ts) × (too_nested 0 ts ≡ Some (at line col))
IsSyntaxFault source SyntaxKind.NoSentence line col =
    (ts : List Token) × (tokens_of source ≡ Ok ts) × (too_nested 0 ts ≡ None) × RefusedAt ts (end_of source) (at line col)
IsSyntaxFault source SyntaxKind.SameName line col =
    (ts : List Token) × (tops : List Top) × (tokens_of source ≡ Ok ts) × (too_nested 0 ts ≡ None) × Spells tops ts
    × (same_names [] tops ≡ Some (at line col))

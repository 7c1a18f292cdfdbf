-- Laws of the grammar. Each is the contract of a function of `law.rt` that does nothing.
use Rattle.std.specs.Prelude.{◌≡◌, ◌⊎◌, ◌↔◌, ◌&&◌, not, if◌then◌else◌, map, ℕ, List, [], ◌∷◌, IfSome, slice_get}
use Rattle.sky_base.specs.Eval.{is_one_of}
use Rattle.sky_base.specs.Tree.{Place}
use Rattle.sky_text.specs.declared.token.Sign.{Sign}
use Rattle.sky_text.specs.declared.token.Word.{Word}
use Rattle.sky_text.specs.declared.token.Token.{Token}
use Rattle.sky_parse_grammar.specs.Signs.{is_word, at_sign}
use Rattle.sky_parse_grammar.specs.Grammar.{place}
use Rattle.sky_parse_grammar.specs.Lifted.{number_name, uses_of}
use Rattle.sky_parse_grammar.specs.Tops.{Top, Spells, made_of}
use Rattle.sky_parse_grammar.specs.Reading.{Begins, IsRefused}
use Rattle.sky_parse_grammar.specs.Partial.{PartlySpelled}

-- Some script spells the tokens, or they are refused at one place and no other.
abbrev pub SpelledOrRefused : Type 0
SpelledOrRefused = (ts : List Token) → ((tops : List Top) × Spells tops ts) ⊎ ((n : ℕ) × IsRefused ts n × ((m : ℕ) → IsRefused ts m → m ≡ n))

-- A tree or a partial tree spells the tokens exactly where some script's tokens begin with them.
abbrev pub BeginsByPartialTrees : Type 0
BeginsByPartialTrees = (ts : List Token) → Begins ts ↔ PartlySpelled ts

-- No two scripts spell the same tokens.
abbrev pub OneScript : Type 0
OneScript = (tops us : List Top) (ts : List Token) → Spells tops ts → Spells us ts → tops ≡ us

-- A name is captured where it stands in the body and is no parameter.
abbrev pub UsesTheNames : Type 0
UsesTheNames = (x : List ℕ) (params body : List (List ℕ)) → is_one_of x (uses_of params body) ≡ is_one_of x body && not (is_one_of x params)

-- The anonymous function with so many before it has their number in its name.
abbrev pub NumberedInOrder : Type 0
NumberedInOrder = (tops : List Top) (k : ℕ) → IfSome (slice_get (made_of 0 tops) k) (λ f. f.name ≡ number_name k)

-- the places of the words that begin an anonymous function: a bracket follows them
abbrev pub function_words : List Token → List Place
function_words [] = []
function_words (t ∷ ts) = if is_word Word.Function t.kind && at_sign Sign.OpenRound ts then place t ∷ function_words ts else function_words ts

-- The anonymous functions of a script are those words, in the order of the text.
abbrev pub AtTheirWords : Type 0
AtTheirWords = (tops : List Top) (ts : List Token) → Spells tops ts → map (λ f. f.place) (made_of 0 tops) ≡ function_words ts

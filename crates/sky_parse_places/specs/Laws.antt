-- Where the faults of a job are.
use Rattle.std.specs.Prelude.{◌≡◌, ◌≤◌, ◌+◌, ◌⊎◌, ℕ, List, Some, Ok, length}
use Rattle.sky_base.specs.Res.{Object}
use Rattle.sky_base.specs.See.{Answered, Around, Desc, Job, Means, see}
use Rattle.sky_base.specs.Tree.{Place, nowhere}
use Rattle.sky_base.specs.declared.fault.Fault.{Fault}
use Rattle.sky_base_law.specs.Tasks.{In}
use Rattle.sky_text.specs.Lexing.{tokens_of}
use Rattle.sky_text.specs.declared.token.Token.{Token}
use Rattle.sky_parse_grammar.specs.Grammar.{place}
use Rattle.sky_parse.specs.Source.{IsScript}

-- it is the place of a token of these bytes, or none
abbrev pub IsPlace : List ℕ → Place → Type 0
IsPlace source p = (p ≡ nowhere) ⊎ ((ts : List Token) × (tokens_of source ≡ Ok ts) × (t : Token) × In t ts × (p ≡ place t))

abbrev pub IsAt : List ℕ → Fault → Type 0
IsAt source f = IsPlace source (record { line = f.line; col = f.col })

-- each fault that a job sees is at a token of its script, or nowhere
abbrev pub SeenFaultsAreAt : Type 0
SeenFaultsAreAt =
    (source : List ℕ) (keys : List (List ℕ)) (job : Job) (around : Around) → IsScript source keys job.script
    → (n : ℕ) (d : Desc) (f : Fault) → see job around n d ≡ Some (Object.fault f) → IsAt source f

-- so is one that it means
abbrev pub MeantFaultsAreAt : Type 0
MeantFaultsAreAt =
    (source : List ℕ) (keys : List (List ℕ)) (job : Job) (around : Around) → IsScript source keys job.script
    → (f : Fault) → Means job around (Answered.fault f) → IsAt source f

-- no line and no column there is greater than one more than the number of the bytes
abbrev pub PlacesAreWithin : Type 0
PlacesAreWithin = (source : List ℕ) (p : Place) → IsPlace source p → (p.line ≤ length source + 1) × (p.col ≤ length source + 1)

-- a script has no more tokens than bytes
abbrev pub TokensAreFew : Type 0
TokensAreFew = (source : List ℕ) (ts : List Token) → tokens_of source ≡ Ok ts → length ts ≤ length source

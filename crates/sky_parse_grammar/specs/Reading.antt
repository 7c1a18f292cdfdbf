-- Which tokens begin a script, and where those that are none go wrong.
use Rattle.std.specs.Prelude.{ℕ, ◌+◌, ◌≤◌, ◌<◌, List, ◌++◌, length, take}
use Rattle.sky_text.specs.declared.token.Token.{Token}
use Rattle.sky_parse_grammar.specs.Tops.{Top, Spells}

-- tokens that some script's tokens begin with
abbrev pub Begins : List Token → Type 0
Begins ts = (tops : List Top) × (more : List Token) × Spells tops (ts ++ more)

-- No tree spells the tokens, and the place is that of the first with which they begin none, or the end.
pub record IsRefused (ts : List Token) (at : ℕ) : Type 0 where
  pub within : at ≤ length ts
  pub before : Begins (take at ts)
  pub here : at < length ts → Begins (take (at + 1) ts) → ⊥
  pub none : (tops : List Top) → Spells tops ts → ⊥

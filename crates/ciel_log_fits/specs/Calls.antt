-- Which functions take how many arguments.
use Rattle.std.specs.Prelude.{◌≡◌, ℕ, List, length, Option, Some, None}
use Rattle.sky_base.specs.Tree.{FunDef}
use Rattle.sky_base.specs.Val.{Vals, count}

-- there is a function, and it has as many parameters
abbrev pub TakesMany : Option FunDef → Vals (List ℕ) → Type 0
TakesMany None vs = ⊥
TakesMany (Some f) vs = length f.params ≡ count vs

-- The list of the parts of nodes, as it grows.
use Rattle.std.specs.Prelude.{◌≡◌, ℕ, List, ◌++◌}
use Rattle.sky_machine_code.specs.Parts.{Chain}

-- the list got the numbers from c up to e, each of them where the node before it ends
pub record Listed (ends old new : List ℕ) (c e : ℕ) : Type 0 where
  pub numbers : List ℕ
  pub all : new ≡ old ++ numbers
  pub chain : Chain ends c e numbers

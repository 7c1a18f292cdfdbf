-- Outputs that are handed out in parts.
use Rattle.std.specs.Prelude.{◌≡◌, ℕ, List, [], ◌∷◌, ◌++◌, length, Ok, Err, Result, Vec}
use Rattle.std.specs.declared.alloc.Global.{Global}
use Rattle.sky_base.specs.declared.fault.FaultKind.{FaultKind}
use Rattle.line_kit.specs.Gives.{Answer}

-- for each output its two parts, one behind the other
abbrev pub each_joined : List (List ℕ) → List (List ℕ) → List (List ℕ)
each_joined [] more = more
each_joined (x ∷ xs) [] = x ∷ xs
each_joined (x ∷ xs) (y ∷ ys) = (x ++ y) ∷ each_joined xs ys

-- of these outputs the first parts were drained, and the others are what follows
pub record Follows (drained more outputs : List (List ℕ)) : Type 0 where
  pub count : length more ≡ length drained
  pub whole : each_joined drained more ≡ outputs

-- the answer, without what was drained of its outputs
abbrev pub Completes : List (List ℕ) → Result (Vec (List ℕ) Global) FaultKind → Answer → Type 0
Completes drained (Ok more) answer = (outputs : List (List ℕ)) × (answer ≡ Ok outputs) × Follows drained more.items outputs
Completes drained (Err kind) answer = answer ≡ Err kind

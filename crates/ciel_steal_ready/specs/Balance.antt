-- What was put is what was taken and what the queue holds, however the items are weighed.
use Rattle.std.specs.Prelude.{◌≡◌, ℕ, ◌+◌, List, [], ◌∷◌, ◌++◌}
use mathlib.Core.Option.{some}
use lib.ListN.{get_elem?}
use Rattle.ciel_steal_ready.specs.declared.rule.Hand.{Hand}

module _ {T : Type 0} where
  abbrev pub hand : List T → List T → Hand T
  hand put taken = record { put = put; taken = taken }

  abbrev pub idle : Hand T
  idle = hand [] []

  abbrev pub has_put : Hand T → List T → Hand T
  has_put v xs = hand (v.put ++ xs) v.taken

  abbrev pub has_taken : Hand T → List T → Hand T
  has_taken v xs = hand v.put (v.taken ++ xs)

  abbrev pub weigh : (T → ℕ) → List T → ℕ
  weigh h [] = 0
  weigh h (x ∷ xs) = h x + weigh h xs

  abbrev pub total : (Hand T → ℕ) → List (Hand T) → ℕ
  total f [] = 0
  total f (v ∷ vs) = f v + total f vs

  abbrev pub Balanced : List T → List (Hand T) → Type 0
  Balanced items views = (h : T → ℕ) → total (λ v. weigh h v.put) views ≡ total (λ v. weigh h v.taken) views + weigh h items

  -- at some moment, while this pass knew so much, the queue held nothing
  abbrev pub WasEmpty : Hand T → Type 0
  WasEmpty v = (port : ℕ) × (views : List (Hand T)) × Balanced [] views × (get_elem? views port ≡ some v)

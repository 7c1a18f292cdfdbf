-- Which objects become known by an executor task.
use Rattle.std.specs.Prelude.{◌≡◌, ◌<◌, ◌≤◌, ℕ, List, length, true, Option, Some, Result, slice_get, ◌⊎◌}
use Rattle.sky_base.specs.Val.{Val, out}
use Rattle.sky_base.specs.declared.fault.Fault.{Fault}
use Rattle.sky_base_known.specs.Walk.{Row, Obj, object_at, is_known}
use Rattle.sky_base_exec.specs.Perform.{output_of}

-- what was known is known as it was
abbrev pub Keeps : List (Option Obj) → List (Option Obj) → Type 0
Keeps before after = (k : ℕ) (o : Obj) → object_at before k ≡ Some o → object_at after k ≡ Some o

-- no more places than there were, or than there are descriptions
abbrev pub InRoom : List Row → List (Option Obj) → List (Option Obj) → Type 0
InRoom rows before after = (m : ℕ) → length before ≤ m → length rows ≤ m → length after ≤ m

-- what is known besides is this object of this description
abbrev pub OnlyOf : List Row → Row → Obj → List (Option Obj) → List (Option Obj) → Type 0
OnlyOf rows d u before after = (k : ℕ) (o : Obj) → object_at after k ≡ Some o → (object_at before k ≡ Some o)
    ⊎ ((slice_get rows k ≡ Some d) × (o ≡ u))

-- the object of this description is known, where it is held
abbrev pub KnownOf : List Row → Row → List (Option Obj) → Type 0
KnownOf rows d after = (k : ℕ) → slice_get rows k ≡ Some d → is_known (object_at after k) ≡ true

-- a task of executor x with these arguments and n outputs
module _ (rows : List Row) (x : List ℕ) (v : Val (List ℕ)) (n : ℕ) where
  -- what is known besides is one of its first m outputs, and its object what the task makes there
  abbrev pub OnlyOutputs : Result (List (List ℕ)) Fault → ℕ → List (Option Obj) → List (Option Obj) → Type 0
  OnlyOutputs made m before after = (k : ℕ) (o : Obj) → object_at after k ≡ Some o → (object_at before k ≡ Some o)
      ⊎ ((i : ℕ) × (i < m) × (slice_get rows k ≡ Some (out x v n i)) × (o ≡ output_of made i))

  -- its first m outputs are known, those that are held
  abbrev pub KnownOutputs : ℕ → List (Option Obj) → Type 0
  KnownOutputs m after = (i : ℕ) → i < m → KnownOf rows (out x v n i) after

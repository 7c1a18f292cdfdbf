-- What the code answers that brings descriptions to their objects.
use Rattle.std.specs.Prelude.{◌≡◌, ℕ, suc, ◌+◌, ◌-◌, ◌*◌, ◌<◌, ◌≤◌, List, [], ◌∷◌, length, Bool, true, false, Option, Some, None, slice_get}
use Rattle.sky_base.specs.See.{Desc, Job, Around}
use Rattle.sky_base.specs.Kept.{Kept}
use Rattle.sky_base.specs.Val.{Val, list, dict, call, out}
use Rattle.sky_base_scope.specs.Plain.{Pairs, Vals}
use Rattle.sky_base_known.specs.Walk.{Obj}
use Rattle.sky_base_known.specs.Walk.{Row, object_at, is_known}
use Rattle.sky_plain.specs.Needs.{Chain, MakesMany}
use Rattle.sky_plain.specs.Stand.{Opens, Standing}
use Rattle.sky_plain.specs.declared.settle.Step.{Step}
use Rattle.sky_plain.specs.declared.settle.Settled.{Settled}

-- how many objects are known
abbrev pub count : List (Option Obj) → ℕ
count [] = 0
count (None ∷ os) = count os
count (Some o ∷ os) = suc (count os)

-- how many descriptions may be open at once
unfoldable pub most_open : ℕ
most_open = 4096

-- ---- a measure: what is left to be known, and then how far the open work is from its bound

abbrev pub height : Bool → ℕ → ℕ
height true n = n + 4097
height false n = 4096 - n

abbrev pub rank : List (Option Obj) → List ℕ → ℕ
rank objects [] = (65536 - count objects) * 8194
rank objects (k ∷ ks) = (65536 - count objects) * 8194 + height (is_known (object_at objects k)) (suc (length ks))

-- the arguments of each call that is held keep the limits, and so does what its function captured
abbrev pub CallsKept : List Row → Type 0
CallsKept rows = (k : ℕ) (f : List ℕ) (c : Pairs) (vs : Vals) → slice_get rows k ≡ Some (call f c vs) → Kept (list vs) × Kept (dict c)

-- and those of each executor task
abbrev pub ArgsKept : List Row → Type 0
ArgsKept rows = (k : ℕ) (x : List ℕ) (v : Val (List ℕ)) (n i : ℕ) → slice_get rows k ≡ Some (out x v n i) → Kept v

-- what was known stays known
abbrev pub Stays : List (Option Obj) → List (Option Obj) → Type 0
Stays before objects = (k : ℕ) → is_known (object_at before k) ≡ true → is_known (object_at objects k) ≡ true

-- ---- one step: the object of the description that is open last, and maybe of more, or what it waits for

module _ (job : Job) (around : Around) where
  abbrev pub Stepped : List ℕ → ℕ → List Row → List (Option Obj) → List (Option Obj) → Step → Type 0
  Stepped ks k rows before objects Step.Known =
      Standing job around rows objects × (is_known (object_at objects k) ≡ true) × Stays before objects
      × (length before ≤ 65536 → length objects ≤ 65536)
  Stepped ks k rows before objects (Step.Waits j) =
      Standing job around rows objects × (objects ≡ before) × (j < length rows) × (object_at objects j ≡ None) × Opens job around rows (j ∷ k ∷ ks)
  Stepped ks k rows before objects Step.Full = MakesMany job around 65537

  -- a step from what stands, with k open last, whatever is open before it
  abbrev pub Steps : ℕ → List Row → List Row → List (Option Obj) → List (Option Obj) → Step → Type 0
  Steps k rows after before objects s =
      (ks : List ℕ) → Standing job around rows before → Opens job around rows (k ∷ ks) → Stepped ks k after before objects s

-- the last of these is the first that was opened
abbrev pub Bottom : ℕ → List ℕ → Type 0
Bottom first [] = ⊥
Bottom first (k ∷ []) = k ≡ first
Bottom first (k ∷ l ∷ ks) = Bottom first (l ∷ ks)

module _ (job : Job) (around : Around) where
  -- the open work, the last opened first; none is left where the object of the first is known
  abbrev pub Open : List Row → List (Option Obj) → ℕ → List ℕ → Type 0
  Open rows objects first [] = is_known (object_at objects first) ≡ true
  Open rows objects first (k ∷ ks) = Opens job around rows (k ∷ ks) × Bottom first (k ∷ ks)

  abbrev pub SettledSo : ℕ → List Row → List (Option Obj) → List (Option Obj) → Settled → Type 0
  SettledSo first rows before objects Settled.Known =
      Standing job around rows objects × (is_known (object_at objects first) ≡ true) × Stays before objects × (length objects ≤ 65536)
  SettledSo first rows before objects Settled.TooDeep = (d : Desc) × Chain job around most_open d
  SettledSo first rows before objects Settled.Full = MakesMany job around 65537

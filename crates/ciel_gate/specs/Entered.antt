-- The list of tasks that a gate tells.
use Rattle.std.specs.Prelude.{◌≡◌, ℕ, List, [], ◌∷◌, ◌++◌, length, Option, Some, None, nat_lt, if◌then◌else◌}
use Rattle.sky_base.specs.declared.object.TaskId.{TaskId}

-- the list after a task was entered has that task as its last, or isn't told
abbrev pub IsEntered : Option (List TaskId) → TaskId → Option (List TaskId) → Type 0
IsEntered before task None = Unit {0}
IsEntered before task (Some after) = (was : List TaskId) × (before ≡ Some was) × (after ≡ was ++ task ∷ [])

-- a list that is told while its room lasts
pub record Told : Type 0 where
  pub tasks : Option (List TaskId)
  pub room : ℕ

-- the list with one task more, where there is room for it
abbrev pub longer : ℕ → Option (List TaskId) → TaskId → Option (List TaskId)
longer room None task = None
longer room (Some tasks) task = if nat_lt (length tasks) room then Some (tasks ++ task ∷ []) else None

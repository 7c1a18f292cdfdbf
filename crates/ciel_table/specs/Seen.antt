-- What contracts see of a table, and what is looked up in it.
use Rattle.std.specs.Prelude.{ℕ, List, [], ◌∷◌, Bool, true, false, ◌||◌, cond, Option, Some, None, IsSome, nat_lt}
use Rattle.std.specs.Option.{option_map_or}
use Rattle.sky_base.specs.declared.object.Desc1.{Desc1}
use Rattle.sky_base.specs.declared.object.TaskId.{TaskId}
use Rattle.ciel_table.specs.Named.{found, place_of}
use Rattle.ciel_table.specs.declared.row.Row.{Row}
use Rattle.ciel_table.specs.declared.wait.Wait.{Wait}
use Rattle.ciel_table.specs.declared.wait.Saves.{Saves}

-- How many rows there may be; the rows in the order of learning; the saved waits of the root task, and of each other task
-- that had one, in the order of their first ones; the workers that were dropped
pub record TableSeen (P : Type 0) : Type 0 where
  pub limit : ℕ
  pub rows : List (Row P)
  pub shown : List (Wait P)
  pub saved : List (Saves P)
  pub gone : List ℕ

abbrev pub is_input : Desc1 → Bool
is_input (Desc1.Call f c vs) = false
is_input (Desc1.Exec x v n i) = false
is_input (Desc1.Input k) = true

module _ {P : Type 0} where
  abbrev pub row_name : Row P → List ℕ
  row_name r = r.name

  abbrev pub saves_name : Saves P → List ℕ
  saves_name s = s.name

  -- ---- rows

  -- the row of a name
  abbrev pub row_named : List ℕ → TableSeen P → Option (Row P)
  row_named n t = found row_name n t.rows

  -- its number
  abbrev pub find : List ℕ → TableSeen P → Option ℕ
  find n t = place_of row_name n t.rows

  -- some row has the name
  abbrev pub Known : TableSeen P → List ℕ → Type 0
  Known t n = IsSome (find n t)

  abbrev pub has_place : List P → Bool
  has_place [] = false
  has_place (p ∷ ps) = true

  abbrev pub is_live_row : Row P → Bool
  is_live_row r = is_input r.desc || has_place r.places

  -- an input, or a name with a place
  abbrev pub is_live : List ℕ → TableSeen P → Bool
  is_live n t = option_map_or is_live_row (row_named n t) false

  -- ---- saved waits

  abbrev pub waits_in : List ℕ → List (Saves P) → List (Wait P)
  waits_in n ss = option_map_or (λ (s : Saves P). s.waits) (found saves_name n ss) []

  -- the saved waits of a task
  abbrev pub waits_of : TaskId → TableSeen P → List (Wait P)
  waits_of TaskId.Show t = t.shown
  waits_of (TaskId.Of n) t = waits_in n t.saved

  abbrev pub later : Wait P → Option (Wait P) → Option (Wait P)
  later w None = Some w
  later w (Some v) = cond (nat_lt v.j w.j) (Some w) (Some v)

  -- the one with the greatest number
  abbrev pub latest : List (Wait P) → Option (Wait P)
  latest [] = None
  latest (w ∷ ws) = later w (latest ws)

  abbrev pub last_wait : TaskId → TableSeen P → Option (Wait P)
  last_wait task t = latest (waits_of task t)

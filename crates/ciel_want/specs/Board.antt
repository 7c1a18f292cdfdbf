-- The graph of a table by numbers of rows: each stands for the task of its name.
use Rattle.std.specs.Prelude.{◌≡◌, ℕ, List, [], ◌∷◌, Bool, true, false, cond, not, filter, Option, Some, None, ◌&&◌, ◌||◌, slice_get, slice_set}
use Rattle.std.specs.Prelude.{length, ◌<◌, ◌⊎◌}
use Rattle.std.specs.Option.{option_map_or, option_and_then}
use Rattle.sky_base.specs.declared.object.TaskId.{TaskId}
use Rattle.ciel_table.specs.Seen.{TableSeen, find, is_input, is_live_row, row_name, row_named}
use Rattle.ciel_table.specs.declared.row.Row.{Row}
use Rattle.ciel_want.specs.Waited.{needs, is_in}

abbrev pub with_some : Option ℕ → List ℕ → List ℕ
with_some None es = es
with_some (Some e) es = e ∷ es

module _ {P : Type 0} (t : TableSeen P) where
  -- the row of a task's name
  abbrev pub task_row : TaskId → Option ℕ
  task_row TaskId.Show = None
  task_row (TaskId.Of n) = find n t

  abbrev pub blocking : Row P → Option ℕ
  blocking r = cond (is_live_row r) None (task_row r.task)

  -- the row of the task that makes a name which isn't live
  abbrev pub blocker : List ℕ → Option ℕ
  blocker n = option_and_then blocking (row_named n t)

  abbrev pub blockers_of : List (List ℕ) → List ℕ
  blockers_of [] = []
  blockers_of (n ∷ ns) = with_some (blocker n) (blockers_of ns)

  -- the task of a row's name; of none the root task
  abbrev pub task_at : Option ℕ → TaskId
  task_at None = TaskId.Show
  task_at (Some e) = TaskId.Of (option_map_or row_name (slice_get t.rows e) [])

  -- the rows to which a row leads; a task that is out leads nowhere
  abbrev pub leads : List ℕ → List TaskId → Option ℕ → List ℕ
  leads main out from = cond (is_in out (task_at from)) [] (blockers_of (needs main t (task_at from)))

  -- ---- by rows of names

  abbrev pub rows_of : List (List ℕ) → List ℕ
  rows_of [] = []
  rows_of (n ∷ ns) = with_some (find n t) (rows_of ns)

  abbrev pub live_at : ℕ → Bool
  live_at e = option_map_or is_live_row (slice_get t.rows e) false

  -- the row of the first of the names that isn't live
  abbrev pub first_unmet : List (List ℕ) → Option ℕ
  first_unmet ns = slice_get (filter (λ e. not (live_at e)) (rows_of ns)) 0

  -- the task that makes what a row names; of none the root task
  abbrev pub maker_at : Option ℕ → TaskId
  maker_at None = TaskId.Show
  maker_at (Some e) = option_map_or (λ (r : Row P). r.task) (slice_get t.rows e) TaskId.Show

  abbrev pub names_at : List ℕ → List (List ℕ)
  names_at [] = []
  names_at (e ∷ es) = option_map_or row_name (slice_get t.rows e) [] ∷ names_at es

  -- ---- what is out

  -- a flag for each row and one for the root task say which tasks are out
  pub record Outs (tasks : List TaskId) (rows : List Bool) (root : Bool) : Type 0 where
    pub long : length rows ≡ length t.rows
    pub root_is : root ≡ is_in tasks TaskId.Show
    pub rows_are : (e : ℕ) → e < length t.rows → slice_get rows e ≡ Some (is_in tasks (task_at (Some e)))

-- whether there is a row and its flag is set
abbrev pub is_set : List Bool → Option ℕ → Bool
is_set flags o = option_map_or (λ b. b) (option_and_then (slice_get flags) o) false

abbrev pub cleared : Option ℕ → List Bool → List Bool
cleared None flags = flags
cleared (Some e) flags = slice_set flags e false

-- the root task, if it is asked for, or one of whose row the flag is set
abbrev pub IsFlagged : {P : Type 0} → TableSeen P → List Bool → Bool → TaskId → Type 0
IsFlagged t flags root task = ((task ≡ TaskId.Show) × (root ≡ true)) ⊎ (is_set flags (task_row t task) ≡ true)

abbrev pub never : ℕ → Bool
never e = false

-- the rows of the names that the task of a row's name waits for
abbrev pub row_leads : {P : Type 0} → List ℕ → TableSeen P → Option ℕ → List ℕ
row_leads main t from = rows_of t (needs main t (maker_at t from))

abbrev pub is_none : List ℕ → Bool
is_none [] = true
is_none (e ∷ es) = false

-- not out, and nothing that it waits for isn't live
abbrev pub can_run_test : {P : Type 0} → List ℕ → TableSeen P → List TaskId → TaskId → Bool
can_run_test main t out task = not (is_in out task) && is_none (blockers_of t (needs main t task))

-- a flag that is set where a test says so, and stays else
abbrev pub IsSet : Bool → Option Bool → Option Bool → Type 0
IsSet true old new = new ≡ Some true
IsSet false old new = new ≡ old

-- ---- the test of what is asked of a table

module _ {P : Type 0} (t : TableSeen P) where
  -- each of the names has a row
  abbrev pub all_known : List (List ℕ) → Bool
  all_known [] = true
  all_known (n ∷ ns) = option_map_or (λ (e : ℕ). all_known ns) (find n t) false

  abbrev pub task_known : TaskId → Bool
  task_known TaskId.Show = false
  task_known (TaskId.Of n) = option_map_or (λ (e : ℕ). true) (find n t) false

module _ {P : Type 0} (main : List ℕ) (t : TableSeen P) where
  abbrev pub row_whole : Row P → Bool
  row_whole r = is_input r.desc || (task_known t r.task && all_known t (needs main t r.task))

  abbrev pub rows_whole : List (Row P) → Bool
  rows_whole [] = true
  rows_whole (r ∷ rs) = row_whole r && rows_whole rs

  abbrev pub whole : Bool
  whole = all_known t (needs main t TaskId.Show) && rows_whole t.rows

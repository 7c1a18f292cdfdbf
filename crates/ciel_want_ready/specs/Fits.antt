-- The graph of a table by numbers, as the marks have it.
use Rattle.std.specs.Prelude.{◌≡◌, ℕ, zero, suc, ◌+◌, List, [], ◌∷◌, Bool, ◌&&◌, not, cond, length, true, false, map, Option, Some, None, slice_get}
use Rattle.std.specs.Option.{option_map, option_map_or}
use Rattle.sky_base.specs.declared.object.TaskId.{TaskId}
use Rattle.ciel_want_marks.specs.Lists.{at, flag}
use Rattle.ciel_want_marks.specs.Moves.{is_none}
use Rattle.ciel_want_marks.specs.Marks.{MarksSeen, Needs, Right}
use Rattle.ciel_table.specs.Seen.{TableSeen, find, is_live_row}
use Rattle.ciel_table.specs.declared.row.Row.{Row}
use Rattle.ciel_want.specs.Board.{live_at, maker_at, task_at, task_row}
use Rattle.ciel_want.specs.Waited.{is_in, needs}

-- a node stands for a row, or for the root task
abbrev pub row_of : ℕ → Option ℕ
row_of zero = None
row_of (suc e) = Some e

module _ {P : Type 0} (t : TableSeen P) where
  -- the node of a task's row
  abbrev pub node_of : TaskId → Option ℕ
  node_of task = option_map suc (task_row t task)

  -- the node that stands for a task
  abbrev pub node_for : TaskId → Option ℕ
  node_for TaskId.Show = Some 0
  node_for (TaskId.Of n) = node_of (TaskId.Of n)

  abbrev pub lives : List Bool
  lives = map is_live_row t.rows

  abbrev pub maker_of : Row P → Option ℕ
  maker_of r = node_of r.task

  abbrev pub makers : List (Option ℕ)
  makers = map maker_of t.rows

  -- which tasks of nodes are out
  abbrev pub outs : List TaskId → List Bool
  outs out = is_in out TaskId.Show ∷ map (λ (r : Row P). is_in out (TaskId.Of r.name)) t.rows

  abbrev pub rows_of : List (List ℕ) → List (Option ℕ)
  rows_of ns = map (λ n. find n t) ns

  -- the rows of those of the names that aren't live, if each has a row
  abbrev pub dead_from : Bool → ℕ → Option (List ℕ) → Option (List ℕ)
  dead_from true e rest = rest
  dead_from false e rest = option_map (λ es. e ∷ es) rest

  abbrev pub dead_at : Option ℕ → Option (List ℕ) → Option (List ℕ)
  dead_at None rest = None
  dead_at (Some e) rest = dead_from (live_at t e) e rest

  abbrev pub dead_rows : List (List ℕ) → Option (List ℕ)
  dead_rows [] = Some []
  dead_rows (n ∷ ns) = dead_at (find n t) (dead_rows ns)

module _ {P : Type 0} (main : List ℕ) (t : TableSeen P) where
  -- what a node waits for, by rows
  abbrev pub needs_by : Needs
  needs_by u = rows_of t (needs main t (task_at t (row_of u)))

  -- the marks are right, of the table's graph
  pub record Fits (m : MarksSeen) : Type 0 where
    pub live : m.live ≡ lives t
    pub makers_are : m.makers ≡ makers t
    pub right : Right m needs_by

  -- and of these tasks
  pub record FitsOut (out : List TaskId) (m : MarksSeen) : Type 0 where
    pub fits : Fits m
    pub outs_are : m.out ≡ outs t out

-- how many nodes can run, the root among them
abbrev pub many_of : MarksSeen → ℕ
many_of m = length m.list + cond (not (flag m.out 0) && is_none (at m.lacks 0)) 1 0

-- the task of the k-th node that can run
abbrev pub runs_at : {P : Type 0} → TableSeen P → MarksSeen → ℕ → TaskId
runs_at t m k = option_map_or (λ r. maker_at t (Some r)) (slice_get m.list k) TaskId.Show

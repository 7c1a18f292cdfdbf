-- What contracts see of a table whose tasks that can run are kept.
use Rattle.std.specs.Prelude.{◌≡◌, ℕ, List, [], ◌∷◌, ◌++◌, length, not, filter, Some, slice_get}
use Rattle.sky_base.specs.declared.object.TaskId.{TaskId}
use Rattle.ciel_journal.specs.Graph.{Picks, Runnable}
use Rattle.ciel_table.specs.Seen.{TableSeen}
use Rattle.ciel_want.specs.Waited.{graph, same_id, tasks_in_order}

-- the table, the name of the main call, and the tasks that are out
pub record ReadySeen (P : Type 0) : Type 0 where
  pub table : TableSeen P
  pub main : List ℕ
  pub out : List TaskId

module _ {P : Type 0} (r : ReadySeen P) where
  -- these tasks can run, in the order of their least rows, the root task last
  abbrev pub CanRun : List TaskId → Type 0
  CanRun ts = Picks (Runnable (graph r.main r.table r.out)) (tasks_in_order r.table) ts

  -- so many tasks can run
  abbrev pub CanRunMany : ℕ → Type 0
  CanRunMany n = (ts : List TaskId) × CanRun ts × (length ts ≡ n)

  -- the k-th of them, from 0
  abbrev pub CanRunAt : ℕ → TaskId → Type 0
  CanRunAt k task = (ts : List TaskId) × CanRun ts × (slice_get ts k ≡ Some task)

  -- with another table
  abbrev pub with_table : TableSeen P → ReadySeen P
  with_table t = record r { table = t }

  -- a task is out besides
  abbrev pub with_out : TaskId → ReadySeen P
  with_out task = record r { out = r.out ++ task ∷ [] }

  -- it is out no longer
  abbrev pub without : TaskId → ReadySeen P
  without task = record r { out = filter (λ x. not (same_id task x)) r.out }

-- The task that follows another one, as far as the marks and the rows tell.
use Rattle.std.specs.Prelude.{◌≡◌, ◌≤◌, ℕ, List, Bool, true, false, Option, Some, None, IfSome, min, slice_get, ◌⊎◌}
use Rattle.std.specs.Option.{option_map}
use Rattle.sky_base.specs.declared.object.Desc1.{Desc1}
use Rattle.sky_base.specs.declared.object.TaskId.{TaskId}
use Rattle.ciel_journal.specs.Job.{In}
use Rattle.ciel_want_marks.specs.Lists.{at, entry, flag}
use Rattle.ciel_want_marks.specs.Marks.{Active, Least, MarksSeen}
use Rattle.ciel_want_ready.specs.Fits.{node_of, row_of}
use Rattle.ciel_table.specs.Seen.{TableSeen, last_wait, row_named}
use Rattle.ciel_table.specs.declared.row.Row.{Row}
use Rattle.ciel_want.specs.Board.{maker_at}
use Rattle.ciel_want.specs.Followers.{ReadsOne}

abbrev pub IsExec : Desc1 → Type 0
IsExec (Desc1.Call f c vs) = ⊥
IsExec (Desc1.Exec x a n i) = Unit {0}
IsExec (Desc1.Input k) = ⊥

module _ {P : Type 0} (t : TableSeen P) where
  -- no executor's task has a saved wait: each still waits for what its arguments name
  abbrev pub ExecsAtStart : Type 0
  ExecsAtStart =
      (n : List ℕ) (r : Row P) → row_named n t ≡ Some r → IsExec r.desc → last_wait (TaskId.Of n) t ≡ None

  -- the description of the row of a task's name
  abbrev pub task_desc : TaskId → Option Desc1
  task_desc TaskId.Show = None
  task_desc (TaskId.Of n) = option_map (λ (r : Row P). r.desc) (row_named n t)

  -- that of the task of a row
  abbrev pub row_desc : Option ℕ → Option Desc1
  row_desc None = None
  row_desc (Some e) = task_desc (maker_at t (Some e))

-- a number isn't before the one that is held
abbrev pub Behind : Option ℕ → ℕ → Type 0
Behind None z = ⊥
Behind (Some y) z = y ≤ z

-- the lesser of what is held and a number
abbrev pub lesser : Option ℕ → ℕ → Option ℕ
lesser None z = Some z
lesser (Some y) z = Some (min y z)

-- the nodes that wait for a row that isn't live
abbrev pub Waits : MarksSeen → ℕ → ℕ → Type 0
Waits m r v = (flag m.live r ≡ false) × In v (at m.watchers r)

-- the nodes that can run, each by its least row
abbrev pub Runs : MarksSeen → ℕ → Type 0
Runs m v = (y : ℕ) × In y m.list × (entry m.makers y ≡ Some v)

-- the nodes that wait for what a node makes, or can run where some of that is live
abbrev pub Near : MarksSeen → ℕ → ℕ → Type 0
Near m u v = (r : ℕ) × In r (at m.makes u) × (Waits m r v ⊎ ((flag m.live r ≡ true) × Runs m v))

module _ {P : Type 0} (t : TableSeen P) (task : TaskId) where
  -- a row's description reads one thing, once, which the task makes, and the task of its name has no saved wait
  pub record RowReads (e : ℕ) : Type 0 where
    pub row : Row P
    pub there : slice_get t.rows e ≡ Some row
    pub reads : ReadsOne t task row.desc
    pub start : last_wait (TaskId.Of row.name) t ≡ None

  module _ (m : MarksSeen) where
    -- so does that of a node's row, and the node is wanted and not out
    pub record NodeFollows (u : ℕ) : Type 0 where
      pub active : Active m u
      pub place : ℕ
      pub is : row_of u ≡ Some place
      pub reads : RowReads place

    -- the least row of a node that does
    abbrev pub LeastFollows : ℕ → Type 0
    LeastFollows y = (v : ℕ) × NodeFollows v × Least m.makes v y

    -- what is held after more nodes were looked at: the least of the rows
    pub record Better (among : ℕ → Type 0) (old new : Option ℕ) : Type 0 where
      pub some : IfSome old LeastFollows → IfSome new LeastFollows
      pub kept : (z : ℕ) → Behind old z → Behind new z
      pub all : (v z : ℕ) → among v → NodeFollows v → Least m.makes v z → Behind new z

    -- the nodes that may follow the task
    abbrev pub MayFollow : ℕ → Type 0
    MayFollow v = (u : ℕ) × (node_of t task ≡ Some u) × Near m u v

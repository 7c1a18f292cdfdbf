-- When a table is that of a history, and what agrees then.
use Rattle.std.specs.Prelude.{◌≡◌, ℕ, List, [], ◌∷◌, true, false, map, Option, Some, None, ◌⊎◌}
use Rattle.sky_base.specs.declared.object.TaskId.{TaskId}
use Rattle.ciel_journal.specs.Graph.{Circle, Led, Picks, Runnable}
use Rattle.ciel_journal.specs.History.{Event, Plan, Standing, standing, is_out, live, needs as needs_after}
use Rattle.ciel_journal.specs.Job.{Each, In, IsJob, Job, Task, of, show}
use Rattle.ciel_journal.specs.Known.{Inner, Knows}
use Rattle.ciel_journal.specs.Lawful.{Lawful, NoClash}
use Rattle.ciel_journal.specs.Turns.{CircleAtRest, IsReadyList, Reached}
use Rattle.ciel_table.specs.Seen.{TableSeen, is_input, is_live}
use Rattle.ciel_table.specs.declared.row.Row.{Row}
use Rattle.ciel_want.specs.Waited.{AllNamed, Whole, graph, is_in, needs, tasks_in_order}

abbrev pub task_id : {D : Type 0} → Job D → Task D → TaskId
task_id job show = TaskId.Show
task_id job (of d) = TaskId.Of (job.name d)

module _ {D P : Type 0} (job : Job D) where
  -- the row of an input, or of what a task makes
  abbrev pub IsRowOf : D → Option (Task D) → Row P → Type 0
  IsRowOf d None r = (r.name ≡ job.name d) × (is_input r.desc ≡ true) × (r.task ≡ TaskId.Of r.name)
  IsRowOf d (Some u) r = (r.name ≡ job.name d) × (is_input r.desc ≡ false) × (r.task ≡ task_id job u)

  -- one row for each description, in order
  abbrev pub AreRowsOf : List D → List (Row P) → Type 0
  AreRowsOf [] [] = Unit {0}
  AreRowsOf [] (r ∷ rs) = ⊥
  AreRowsOf (d ∷ ds) [] = ⊥
  AreRowsOf (d ∷ ds) (r ∷ rs) = IsRowOf d (job.task_of d) r × AreRowsOf ds rs

module _ {D : Type 0} (job : Job D) where
  abbrev pub own_if : D → Option (Task D) → D
  own_if d None = d
  own_if d (Some show) = d
  own_if d (Some (of e)) = e

  -- the description that the task of d goes by; an input goes by itself
  abbrev pub own : D → D
  own d = own_if d (job.task_of d)

  -- each description stands once, and what its task goes by stands not later
  abbrev pub Listed : List D → List D → Type 0
  Listed past [] = Unit {0}
  Listed past (d ∷ ds) = (In d past → ⊥) × ((own d ≡ d) ⊎ In (own d) past) × Listed (d ∷ past) ds

module _ {D P : Type 0} (job : Job D) (v : Standing D) (main : List ℕ) (t : TableSeen P) (out : List TaskId) where
  -- the table is that of what stands after a history: its rows are the book; live is what is live; each reached task waits for
  -- what it waits for, by names; and the tasks that are out have open Starts
  pub record IsHistory : Type 0 where
    pub rows : AreRowsOf job v.book t.rows
    pub apart : NoClash job v.book
    pub listed : Listed job [] v.book
    pub known : (u : Task D) → Reached job v u → Each (λ d. In d v.book) (needs_after job v u)
    pub lives : (d : D) → In d v.book → is_live (job.name d) t ≡ live job v d
    pub waits : (u : Task D) → Reached job v u → needs main t (task_id job u) ≡ map job.name (needs_after job v u)
    pub outs : (u : Task D) → Reached job v u → is_in out (task_id job u) ≡ is_out job v u

  -- the reached tasks are the same, and so are the lists of those that can run; where nothing is open, a circle of the table is
  -- one after the history
  pub record Agree : Type 0 where
    pub reached : (u : Task D) → Reached job v u → Led (graph main t out) (task_id job u)
    pub only : (x : TaskId) → Led (graph main t out) x → (u : Task D) × (task_id job u ≡ x) × Reached job v u
    pub ready : (us : List (Task D)) (ts : List TaskId) → IsReadyList job v us → Picks (Runnable (graph main t out)) (tasks_in_order t) ts → ts
        ≡ map (task_id job) us
    pub circle : v.orders ≡ [] → (ns : List (List ℕ)) → Circle (graph main t out) ns → (ds : List D) × (ns ≡ map job.name ds) × CircleAtRest job v ds

module _ {D P : Type 0} (job : Job D) (v : Standing D) (main : List ℕ) (t : TableSeen P) (out : List TaskId) where
  -- the table holds what stands: its rows are the book, live is what is live, each reached task waits for what it waits for,
  -- by names, and the tasks that are out have open Starts
  pub record Holds : Type 0 where
    pub rows : AreRowsOf job v.book t.rows
    pub lives : (d : D) → In d v.book → is_live (job.name d) t ≡ live job v d
    pub waits : (u : Task D) → Reached job v u → needs main t (task_id job u) ≡ map job.name (needs_after job v u)
    pub outs : (u : Task D) → Reached job v u → is_in out (task_id job u) ≡ is_out job v u

module _ (D P : Type 0) where
  -- a table that holds what stands after a lawful history agrees with it, where the job tells where all comes from
  abbrev pub LawfulAgrees : Type 0
  LawfulAgrees =
      (job : Job D) → IsJob job → (inner : Inner D) → Knows job inner → (p : Plan) (h : List (Event D)) → Lawful job p h
      → (main : List ℕ) (t : TableSeen P) (out : List TaskId)
      → Holds job (standing job h) main t out → Agree job (standing job h) main t out

  -- a table that is a history's agrees with it
  abbrev pub HistoryAgrees : Type 0
  HistoryAgrees =
      (job : Job D) → IsJob job → (v : Standing D) (main : List ℕ) (t : TableSeen P) (out : List TaskId) → IsHistory job v main t out
      → Agree job v main t out

module _ (P : Type 0) where
  -- where all names have rows, a table is whole
  abbrev pub NamedIsWhole : Type 0
  NamedIsWhole = (main : List ℕ) (t : TableSeen P) → AllNamed main t → Whole main t

-- What holds of the master's state until the run stops, by names alone, and when a report fits its order.
use Rattle.std.specs.Prelude.{◌≡◌, ℕ, ◌≤◌, ◌<◌, List, length, true, Some, nat_eq, slice_get, ◌⊎◌}
use Rattle.std.specs.List.{AllByRecursion, IsDistinct, list_any}
use Rattle.sky_base.specs.Name.{digested}
use Rattle.sky_base.specs.ObjectView.{desc_view}
use Rattle.sky_base.specs.Val.{same_text}
use Rattle.sky_base.specs.declared.object.Named.{Named}
use Rattle.sky_base.specs.declared.object.TaskId.{TaskId}
use Rattle.ciel_journal.specs.Job.{Digest, Each, In}
use Rattle.ciel_name.specs.Laws.{SpelledDesc}
use Rattle.ciel_name.specs.Names.{first_output}
use Rattle.ciel_table.specs.Seen.{Known, TableSeen, waits_of}
use Rattle.ciel_table.specs.Sound.{Here}
use Rattle.ciel_table.specs.declared.row.Row.{Row}
use Rattle.ciel_table.specs.declared.wait.Wait.{Wait}
use Rattle.ciel_table.specs.declared.wait.Saves.{Saves}
use Rattle.ciel_want.specs.Waited.{AllKnown}
use Rattle.ciel_master_board.specs.Board.{Board, Order, OrderOut, shelf, spot_of, start_refs}
use Rattle.ciel_master_board.specs.Reports.{AllLearned, Copy, End, IsNamed, Output, Stack, copy_names, learned_all, made, missing, saved}

module _ {P : Type 0} (digest : List ℕ → List ℕ) where
  -- it has the name and the task that its description has by this digest, its canonical bytes spell it, and all that stands
  -- inside it has rows, as has the task
  pub record RowSound (t : TableSeen P) (r : Row P) : Type 0 where
    pub name : r.name ≡ digested digest (desc_view r.desc)
    pub task : r.task ≡ TaskId.Of (digested digest (first_output (desc_view r.desc)))
    pub spelled : SpelledDesc (desc_view r.desc)
    pub inside : AllKnown t (start_refs r.desc)
    pub own : Known t (digested digest (first_output (desc_view r.desc)))

module _ {P : Type 0} where
  -- what is waited for there, and what the stack holds, has rows
  pub record WaitSound (t : TableSeen P) (w : Wait P) : Type 0 where
    pub refs : AllKnown t w.refs
    pub holds : AllKnown t w.holds

  -- so does a task that has saved waits
  pub record SavesSound (t : TableSeen P) (s : Saves P) : Type 0 where
    pub task : Known t s.name
    pub waits : AllByRecursion (WaitSound t) s.waits

  -- the root task, or one whose name has a row
  abbrev pub IsTask : TableSeen P → TaskId → Type 0
  IsTask t TaskId.Show = Unit {0}
  IsTask t (TaskId.Of n) = Known t n

  -- its number was given, its worker is one of the plan's and isn't lost, and its task has no later saved wait
  pub record OrderSound (b : Board P) (x : OrderOut) : Type 0 where
    pub number : x.number < b.starts
    pub worker : x.worker < b.plan.workers
    pub here : Here b.table.gone x.worker
    pub task : IsTask b.table x.task
    pub last : AllByRecursion (λ (w : Wait P). w.j ≤ x.from) (waits_of x.task b.table)

module _ {P : Type 0} (digest : List ℕ → List ℕ) (at : P → ℕ) where
  pub record Sound (b : Board P) : Type 0 where
    pub limit : b.table.limit ≡ b.plan.limit
    pub room : length b.table.rows ≤ b.table.limit
    pub main : Known b.table b.main
    pub rows : AllByRecursion (RowSound digest b.table) b.table.rows
    pub shown : AllByRecursion (WaitSound b.table) b.table.shown
    pub saved : AllByRecursion (SavesSound b.table) b.table.saved
    pub orders : Each (OrderSound b) b.orders
    -- a number, a task and a worker have one order
    pub numbers : (x y : OrderOut) → In x b.orders → In y b.orders → x.number ≡ y.number → x ≡ y
    pub tasks : (x y : OrderOut) → In x b.orders → In y b.orders → x.task ≡ y.task → x ≡ y
    pub workers : (x y : OrderOut) → In x b.orders → In y b.orders → x.worker ≡ y.worker → x ≡ y

  -- ---- when a report fits

  -- its name has a row, and its place is at the order's worker
  pub record OutputFits (t : TableSeen P) (x : Order P) (m : Output P) : Type 0 where
    pub known : Known t m.name
    pub here : at m.place ≡ x.out.worker

  -- besides, the order gives it a place at another worker
  pub record CopyFits (t : TableSeen P) (x : Order P) (c : Copy P) : Type 0 where
    pub known : Known t c.name
    pub here : at c.place ≡ x.out.worker
    pub from : P
    pub given : spot_of c.name x.inputs ≡ Some (shelf from)
    pub other : at from ≡ x.out.worker → ⊥

  -- the stack is at the order's worker, at a later wait, and its names have rows
  pub record StackFits (t : TableSeen P) (x : Order P) (s : Stack P) : Type 0 where
    pub later : x.out.from < s.j
    pub here : at s.place ≡ x.out.worker
    pub refs : AllKnown t s.refs
    pub holds : AllKnown t s.holds

  -- the name that stands for a task where its stack is missed
  abbrev pub own_name : Digest → TaskId → Digest
  own_name main TaskId.Show = main
  own_name main (TaskId.Of n) = n

  -- the place that the order gives for the name, or for its stack, is at a worker that the plan's loss of this number names
  -- and that is lost
  pub record MissingFits (b : Board P) (x : Order P) (name : Digest) (loss : ℕ) : Type 0 where
    pub place : P
    pub given : (spot_of name x.inputs ≡ Some (shelf place)) ⊎ ((x.stack ≡ Some place) × (name ≡ own_name b.main x.out.task))
    pub planned : (count : ℕ) × (slice_get b.plan.losses loss ≡ Some (count, at place))
    pub lost : list_any (nat_eq (at place)) b.table.gone ≡ true

  -- the end of a run, where all that it spawned is learned
  abbrev pub EndFits : Order P → TableSeen P → End P → Type 0
  EndFits x t (made ms cs) =
      Each (OutputFits t x) ms × Each (CopyFits t x) cs × IsDistinct same_text (copy_names cs)
  EndFits x t (saved s) = StackFits t x s
  EndFits x t (missing name loss) = Unit {0}

  -- what is missing, whatever is learned
  abbrev pub MissFits : Board P → Order P → End P → Type 0
  MissFits b x (made ms cs) = Unit {0}
  MissFits b x (saved s) = Unit {0}
  MissFits b x (missing name loss) = MissingFits b x name loss

  -- with this table after it is learned, all that stands inside what is spawned has a row, and so has its task; and the end fits
  pub record FitsIn (x : Order P) (t : TableSeen P) (spawned : List Named) (how : End P) : Type 0 where
    pub inside : Each (λ (n : Named). AllKnown t (start_refs n.desc)) spawned
    pub tasks : Each (λ (n : Named). Known t (digested digest (first_output (desc_view n.desc)))) spawned
    pub end : EndFits x t how

  -- each that is spawned has its name; what is missing is so; and where it is learned whole, it fits in the table then
  pub record Fits (b : Board P) (x : Order P) (spawned : List Named) (how : End P) : Type 0 where
    pub named : Each (IsNamed digest) spawned
    pub missed : MissFits b x how
    pub learned : AllLearned digest spawned b.table → FitsIn x (learned_all digest spawned b.table) spawned how

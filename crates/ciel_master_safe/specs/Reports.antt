-- When a report fits its order, besides what is said by names alone.
use Rattle.std.specs.Prelude.{◌≡◌, ℕ, zero, suc, ◌<◌, List, [], ◌∷◌, map, Option, Some, None}
use Rattle.sky_base.specs.Name.{digested}
use Rattle.sky_base.specs.Tree.{Script}
use Rattle.sky_base.specs.Val.{Desc, Val, call, input, known, out}
use Rattle.sky_base.specs.View.{view}
use Rattle.sky_base.specs.declared.object.Desc1.{Desc1}
use Rattle.sky_base.specs.declared.object.Named.{Named}
use Rattle.sky_base.specs.declared.object.TaskId.{TaskId}
use Rattle.ciel_master_board.specs.Board.{Board, Order, OrderOut, task_desc}
use Rattle.ciel_master_board.specs.Reports.{Copy, End, Output, learned_all, made, made_names, missing, named_view, saved}
use Rattle.ciel_master_board.specs.Sound as board
use Rattle.ciel_journal.specs.Job.{Digest, Each, In}
use Rattle.ciel_store.specs.Seen.{IsPlaceOf, ShelvesSeen}
use Rattle.ciel_table.specs.Seen.{TableSeen}
use Rattle.ciel_task_order.specs.Orders.{HasStack}
use Rattle.ciel_task_order.specs.Views.{P}
use Rattle.ciel_master_safe.specs.Safe.{IsCall, IsStackOf, ObjectLies, Serves, W}

-- each output of an executor stands there with all outputs of its task
abbrev pub StandsWhole : List (Desc (List ℕ)) → Desc (List ℕ) → Type 0
StandsWhole ds (call f c vs) = Unit {0}
StandsWhole ds (out x a n i) = (i < n) × ((k : ℕ) → k < n → In (out x a n k) ds)
StandsWhole ds (input k) = Unit {0}
StandsWhole ds (known b) = Unit {0}

-- ---- the names of the outputs of a task, in order

module _ (digest : List ℕ → List ℕ) where
  abbrev pub names_from : List ℕ → Val (List ℕ) → (n k count : ℕ) → List Digest
  names_from x a n k zero = []
  names_from x a n k (suc m) = digested digest (out x a n k) ∷ names_from x a n (suc k) m

  abbrev pub outputs_of : Option Desc1 → List Digest
  outputs_of None = []
  outputs_of (Some (Desc1.Call f c vs)) = digested digest (call f c vs) ∷ []
  outputs_of (Some (Desc1.Exec x a n i)) = names_from x (view a) n 0 n
  outputs_of (Some (Desc1.Input k)) = []

-- a call, or the root task
abbrev pub CanWait : TaskId → Option Desc1 → Type 0
CanWait TaskId.Show d = Unit {0}
CanWait (TaskId.Of n) None = ⊥
CanWait (TaskId.Of n) (Some d) = IsCall d

module _ (digest : List ℕ → List ℕ) (shelves : ShelvesSeen) (sc : Script) where
  -- with the table after what it spawned is learned
  abbrev pub EndSafe : Board P → OrderOut → TableSeen P → End P → Type 0
  EndSafe b x t (made ms cs) =
      (made_names ms ≡ outputs_of digest (task_desc b.main b.table x.task))
      × Each (λ (m : Output P). ObjectLies digest shelves sc t m.place) ms
      × Each (λ (c : Copy P). ObjectLies digest shelves sc t c.place) cs
  EndSafe b x t (saved s) =
      CanWait x.task (task_desc b.main b.table x.task) × IsPlaceOf shelves s.place
      × HasStack (IsStackOf sc x.task s.j s.refs s.holds) s.place.at.value
  EndSafe b x t (missing name loss) = Unit {0}

  -- What it spawned can be served, each executor's output with all of its task; its places are of these shelves, what lies there is
  -- sound for the script, all that this refers to has rows, and each output of the task has its place
  pub record ReportSafe (b : Board P) (x : OrderOut) (spawned : List Named) (how : End P) : Type 0 where
    pub serves : Each (λ (n : Named). Serves sc b.keys n.desc) spawned
    pub whole : Each (λ (n : Named). StandsWhole (map named_view spawned) (named_view n)) spawned
    pub end : EndSafe b x (learned_all digest spawned b.table) how

  -- it fits
  pub record FitsSafely (b : Board P) (x : Order P) (spawned : List Named) (how : End P) : Type 0 where
    pub fits : board.Fits digest W b x spawned how
    pub safe : ReportSafe b x.out spawned how

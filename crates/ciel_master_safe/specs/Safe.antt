-- What holds of a master's state whatever was reported: by names, and by what lies at the places that it has.
use Rattle.std.specs.Prelude.{◌≡◌, ℕ, ◌≤◌, ◌<◌, List, length, Option, Some, None}
use Rattle.std.specs.List.{AllByRecursion}
use Rattle.sky_base.specs.Kept.{Kept}
use Rattle.sky_base.specs.Name.{digested}
use Rattle.sky_base.specs.Names.{known_of}
use Rattle.sky_base.specs.ObjectView.{desc_view}
use Rattle.sky_base.specs.Tree.{Script}
use Rattle.sky_base.specs.Val.{Desc, call, input, known, out, same_text}
use Rattle.sky_base.specs.View.{view}
use Rattle.sky_base.specs.declared.object.Desc1.{Desc1}
use Rattle.sky_base.specs.declared.object.TaskId.{TaskId}
use Rattle.sky_state.specs.Fits.{Fits}
use Rattle.sky_state.specs.Pending.{held_in, pending_in, stand_wait}
use Rattle.sky_state.specs.Stand.{Stand}
use Rattle.sky_state.specs.Start.{CanStart}
use Rattle.ciel_master_board.specs.Board.{Board, key_number}
use Rattle.ciel_master_board.specs.Sound.{Sound}
use Rattle.ciel_store.specs.Seen.{IsPlaceOf, ShelvesSeen}
use Rattle.ciel_table.specs.Named.{IsOnce}
use Rattle.ciel_table.specs.Seen.{TableSeen, row_name, row_named}
use Rattle.ciel_table.specs.Sound.{Here}
use Rattle.ciel_table.specs.declared.row.Row.{Row}
use Rattle.ciel_table.specs.declared.wait.Saves.{Saves}
use Rattle.ciel_table.specs.declared.wait.Wait.{Wait}
use Rattle.ciel_task_order.specs.Orders.{HasObject, HasStack, OfKind}
use Rattle.ciel_task_order.specs.Performs.{BlockKnown}
use Rattle.ciel_task_order.specs.Views.{P}

-- the worker of a place
abbrev pub W : P → ℕ
W p = p.worker

-- ---- descriptions

module _ (digest : List ℕ → List ℕ) where
  -- the row that is found by the name of this description is its own
  pub record HasDesc (t : TableSeen P) (d : Desc (List ℕ)) : Type 0 where
    pub row : Row P
    pub found : row_named (digested digest d) t ≡ Some row
    pub same : desc_view row.desc ≡ d

  -- so is that of each output of its task
  abbrev pub HasOutputs : TableSeen P → Desc (List ℕ) → Type 0
  HasOutputs t (call f c vs) = HasDesc t (call f c vs)
  HasOutputs t (out x a n i) = (i < n) × ((k : ℕ) → k < n → HasDesc t (out x a n k))
  HasOutputs t (input k) = Unit {0}
  HasOutputs t (known b) = ⊥

-- a call can be started, an executor's arguments keep the limits, and an input is one of those with these keys
abbrev pub Serves : Script → List (List ℕ) → Desc1 → Type 0
Serves sc keys (Desc1.Call f c vs) = CanStart sc f c vs
Serves sc keys (Desc1.Exec x a n i) = Kept (view a)
Serves sc keys (Desc1.Input k) = (i : ℕ) × (key_number keys k ≡ Some i)

abbrev pub IsCall : Desc1 → Type 0
IsCall (Desc1.Call f c vs) = Unit {0}
IsCall (Desc1.Exec x a n i) = ⊥
IsCall (Desc1.Input k) = ⊥

-- the root task goes by no description, and another one by that of its row
abbrev pub GoesBy : TableSeen P → TaskId → Option Desc1 → Type 0
GoesBy t TaskId.Show None = Unit {0}
GoesBy t TaskId.Show (Some d) = ⊥
GoesBy t (TaskId.Of n) None = ⊥
GoesBy t (TaskId.Of n) (Some d) = (r : Row P) × (row_named n t ≡ Some r) × (r.desc ≡ d)

-- ---- what lies at places

-- a stack of this task that fits the script, at this wait; it waits for and holds what has these names, each once
abbrev pub IsStackOf : Script → TaskId → (j : ℕ) (refs holds : List (List ℕ)) → Stand (List ℕ) → Type 0
IsStackOf sc task j refs holds s =
    Fits sc s × OfKind task s × (stand_wait s ≡ j) × (known_of refs ≡ pending_in same_text s) × (known_of holds ≡ held_in same_text s)

module _ (digest : List ℕ → List ℕ) (shelves : ShelvesSeen) (sc : Script) where
  -- an object lies at a place of these shelves; it is sound for the script, and all that it refers to has rows
  pub record ObjectLies (t : TableSeen P) (p : P) : Type 0 where
    pub place : IsPlaceOf shelves p
    pub object : HasObject sc p.at.value
    pub known : BlockKnown t p

  -- and the place's worker isn't lost
  pub record ObjectSafe (t : TableSeen P) (p : P) : Type 0 where
    pub lies : ObjectLies t p
    pub here : Here t.gone p.worker

  pub record WaitSafe (t : TableSeen P) (task : TaskId) (w : Wait P) : Type 0 where
    pub later : 0 < w.j
    pub place : IsPlaceOf shelves w.place
    pub stack : HasStack (IsStackOf sc task w.j w.refs w.holds) w.place.at.value
    pub here : Here t.gone w.place.worker

  pub record RowSafe (keys : List (List ℕ)) (t : TableSeen P) (r : Row P) : Type 0 where
    pub serves : Serves sc keys r.desc
    pub outputs : HasOutputs digest t (desc_view r.desc)
    pub places : AllByRecursion (ObjectSafe t) r.places

  -- the saved waits of a task are those of a call
  pub record SavesSafe (t : TableSeen P) (s : Saves P) : Type 0 where
    pub row : Row P
    pub found : row_named s.name t ≡ Some row
    pub call : IsCall row.desc
    pub waits : AllByRecursion (WaitSafe t (TaskId.Of s.name)) s.waits

  -- a table
  pub record TableSafe (keys : List (List ℕ)) (t : TableSeen P) : Type 0 where
    pub once : IsOnce row_name t.rows
    pub rows : AllByRecursion (RowSafe keys t) t.rows
    pub shown : AllByRecursion (WaitSafe t TaskId.Show) t.shown
    pub saved : AllByRecursion (SavesSafe t) t.saved

  -- The state: besides, it is sound, its keys are the script's, as many as there are inputs, and each worker has a shelf
  pub record Safe (inputs : ℕ) (b : Board P) : Type 0 where
    pub sound : Sound digest W b
    pub table : TableSafe b.keys b.table
    pub keys : b.keys ≡ sc.keys
    pub few : length sc.keys ≡ inputs
    pub wide : b.plan.workers ≤ length shelves.rows

-- What a report tells of the end of a run.
use Rattle.std.specs.Prelude.{◌≡◌, ℕ, List, [], ◌∷◌, Some}
use Rattle.sha1.specs.Sha1.{sha1}
use Rattle.sky_base.specs.Names.{known_of}
use Rattle.sky_base.specs.ObjectView.{object_view}
use Rattle.sky_base.specs.Val.{same_text}
use Rattle.sky_base.specs.declared.object.Named.{Named}
use Rattle.sky_base.specs.declared.object.Object.{Object}
use Rattle.sky_base.specs.declared.object.TaskId.{TaskId}
use Rattle.sky_frozen_bytes.specs.Bytes.{frozen_bytes}
use Rattle.sky_base_law.specs.Tasks.{Each}
use Rattle.ciel_name_law.specs.Told.{DescTold}
use Rattle.ciel_master_board.specs.Reports.{named_view}
use Rattle.ciel_task_call.specs.Steps.{Spawned}
use Rattle.ciel_task_call.specs.Step.{Step}
use Rattle.sky_state.specs.Pending.{held_in, pending_in, stand_wait}
use Rattle.sky_state.specs.Stand.{Stand}
use Rattle.sky_state.specs.StandView.{spawned_view}
use Rattle.ciel_name.specs.Object.{object_bytes}
use Rattle.ciel_store.specs.Seen.{IsPlaceOf, PlaceSeen, SeatSeen, ShelvesSeen}
use Rattle.ciel_store.specs.declared.loss.Loss.{Loss}
use Rattle.ciel_task_order.specs.declared.block.Block.{Block}
use Rattle.ciel_task_order.specs.declared.block.Held.{Held}
use Rattle.ciel_task_order.specs.declared.order.Order.{Order}
use Rattle.ciel_task_order.specs.declared.report.End.{End}
use Rattle.ciel_task_order.specs.declared.report.Made.{Made}
use Rattle.ciel_task_order.specs.declared.report.Report.{Report}
use Rattle.ciel_task_inputs.specs.JournalWalksLaws.{names_of}

-- a call comes to an object, the root task to an answer
abbrev pub StepOf : TaskId → Step → Type 0
StepOf TaskId.Show (Step.Ended o) = ⊥
StepOf (TaskId.Of n) (Step.Shown s) = ⊥
StepOf _ _ = Unit {0}

-- a call
abbrev pub IsCall : TaskId → Type 0
IsCall TaskId.Show = ⊥
IsCall (TaskId.Of n) = Unit {0}

-- the end with this one output
abbrev pub IsOneMade : Made → End → Type 0
IsOneMade m (End.Made ms) = ms.items ≡ m ∷ []
IsOneMade m _ = ⊥

module _ (shelves : ShelvesSeen) (w : ℕ) where
  -- this block lies at a place of the worker's shelf
  pub record LiesAt (b : Block) (p : PlaceSeen Block) : Type 0 where
    pub here : IsPlaceOf shelves p
    pub worker : p.worker ≡ w
    pub block : p.at.value ≡ b

  -- the object of the task lies there, under the task's name and with its mark
  pub record IsMade (task : TaskId) (o : Object) (m : Made) : Type 0 where
    pub name : task ≡ TaskId.Of m.name
    pub lies : LiesAt (Block.Object o) m.place
    pub mark : m.mark ≡ sha1 (object_bytes (object_view o))

  -- the stack of the state lies there; the number of its wait, the names of what it waits for and holds there, and its mark
  pub record IsSaved (s : Stand (List ℕ)) (p : PlaceSeen Block) (j : ℕ) (waited kept : List (List ℕ)) (m : List ℕ) : Type 0 where
    pub lies : LiesAt (Block.Frozen s) p
    pub wait : j ≡ stand_wait s
    pub refs : waited ≡ names_of (pending_in same_text s)
    pub holds : kept ≡ names_of (held_in same_text s)
    pub mark : m ≡ sha1 (frozen_bytes s)
    pub waits : known_of waited ≡ pending_in same_text s
    pub keeps : known_of kept ≡ held_in same_text s

  abbrev pub SavedSo : Stand (List ℕ) → End → Type 0
  SavedSo s (End.Saved p j refs holds mark) = IsSaved s p j refs holds mark
  SavedSo s _ = ⊥

  -- what the report says of what a task came to, with the state after it
  abbrev pub EndIs : TaskId → Step → Stand (List ℕ) → End → Type 0
  EndIs task (Step.Ended o) s (End.Made ms) = (m : Made) × (ms.items ≡ m ∷ []) × IsMade task o m
  EndIs task Step.Waits s end = SavedSo s end
  EndIs task (Step.Shown a) s (End.Shown b) = b ≡ a
  EndIs task _ s _ = ⊥

-- it is of the order
pub record IsOf (order : Order) (r : Report) : Type 0 where
  pub number : r.number ≡ order.number
  pub worker : r.worker ≡ order.worker
  pub task : r.task ≡ order.task

-- it tells of nothing but that what has this name lay at a worker that is lost, and what the eye had seen then
pub record TellsMissing (order : Order) (name : List ℕ) (loss : Loss) (eye : SeatSeen) (r : Report) : Type 0 where
  pub of : IsOf order r
  pub spawned : r.spawned.items ≡ []
  pub copied : r.copied.items ≡ []
  pub end : r.end ≡ End.Missing name loss (Some eye)

-- where it waits nothing is told of what was copied
abbrev pub told_copies : Step → List Held → List Held
told_copies Step.Waits cs = []
told_copies _ cs = cs

-- the report of an order that came to this step, with the state after it, and of what was spawned and copied
pub record CameSo (shelves : ShelvesSeen) (order : Order) (step : Step) (s : Stand (List ℕ)) (made : Spawned) (cs : List Held)
    (r : Report) : Type 0 where
  pub of : IsOf order r
  pub spawned : spawned_view r.spawned.items ≡ made
  pub typed : Each (λ (n : Named). DescTold (named_view n)) r.spawned.items
  pub copied : r.copied.items ≡ told_copies step cs
  pub end : EndIs shelves order.worker order.task step s r.end

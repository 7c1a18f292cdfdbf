-- What lies at the places that a report gives.
use Rattle.std.specs.Prelude.{◌≡◌, ℕ, List, Option, Some, None, map}
use Rattle.sky_base.specs.Name.{held_name}
use Rattle.sky_base.specs.Tree.{Script}
use Rattle.sky_base.specs.Val.{same_text}
use Rattle.sky_base.specs.declared.object.TaskId.{TaskId}
use Rattle.ciel_master_board.specs.Tasks.{Each}
use Rattle.sky_state.specs.Fits.{Fits}
use Rattle.sky_state.specs.Pending.{held_in, pending_in, stand_wait}
use Rattle.ciel_store.specs.Seen.{IsPlaceOf, PlaceSeen, SeatSeen, ShelvesSeen}
use Rattle.ciel_task_order.specs.Orders.{HasObject, HasStack, OfKind}
use Rattle.ciel_task_order.specs.declared.block.Block.{Block}
use Rattle.ciel_task_order.specs.declared.block.Held.{Held}
use Rattle.ciel_task_order.specs.declared.block.Spot.{Spot}
use Rattle.ciel_task_order.specs.declared.report.End.{End}
use Rattle.ciel_task_order.specs.declared.report.Made.{Made}
use Rattle.ciel_task_order.specs.declared.report.Report.{Report}

-- what an eye saw is seen from a seat at these shelves
abbrev pub SeenAt : ShelvesSeen → Option SeatSeen → Type 0
SeenAt shelves None = Unit {0}
SeenAt shelves (Some seen) = seen.of ≡ shelves.of

module _ (shelves : ShelvesSeen) (w : ℕ) (sc : Script) where
  -- a place of the worker's shelf, where an object lies that is sound for the script
  pub record ObjectAt (p : PlaceSeen Block) : Type 0 where
    pub here : IsPlaceOf shelves p
    pub worker : p.worker ≡ w
    pub object : HasObject sc p.at.value

  -- one where a stack of this task lies that fits the script, at this wait, and waits for and holds what has these names
  pub record StackAt (task : TaskId) (p : PlaceSeen Block) (j : ℕ) (refs holds : List (List ℕ)) : Type 0 where
    pub here : IsPlaceOf shelves p
    pub worker : p.worker ≡ w
    pub stack : HasStack (λ s. Fits sc s × OfKind task s × (stand_wait s ≡ j) × (map held_name (pending_in same_text s) ≡ refs)
        × (map held_name (held_in same_text s) ≡ holds)) p.at.value

  abbrev pub CopyAt : Spot → Type 0
  CopyAt (Spot.Shelf p) = ObjectAt p
  CopyAt (Spot.Input i) = ⊥

  abbrev pub EndAt : TaskId → End → Type 0
  EndAt task (End.Made ms) = Each (λ (m : Made). ObjectAt m.place) ms.items
  EndAt task (End.Saved p j refs holds mark) = StackAt task p j refs holds
  EndAt task (End.Shown s) = Unit {0}
  EndAt task (End.Missing name loss seen) = SeenAt shelves seen

  -- so it is at all places of the report
  pub record PlacesSound (r : Report) : Type 0 where
    pub end : EndAt r.task r.end
    pub copied : Each (λ (h : Held). CopyAt h.at) r.copied.items

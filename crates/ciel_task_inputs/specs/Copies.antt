-- What was copied to a worker's own shelf.
use Rattle.std.specs.Prelude.{◌≡◌, ℕ, List, true, Some}
use Rattle.std.specs.List.{IsDistinct}
use Rattle.sky_base.specs.Val.{same_text}
use Rattle.sky_base_law.specs.Tasks.{Each}
use Rattle.ciel_table.specs.Named.{found}
use Rattle.ciel_store.specs.Seen.{IsPlaceOf, PlaceSeen, ShelvesSeen}
use Rattle.ciel_task_order.specs.Orders.{names_in}
use Rattle.ciel_task_order.specs.declared.block.Block.{Block}
use Rattle.ciel_task_order.specs.declared.block.Held.{Held}
use Rattle.ciel_task_order.specs.declared.block.Spot.{Spot}
use Rattle.ciel_task_inputs.specs.Lies.{held_name, is_elsewhere, lies_at, object_in}

-- for worker w, of what an order brings along, where these are the inputs of the job
module _ (shelves : ShelvesSeen) (w : ℕ) (inputs : List (List ℕ × List ℕ)) (held : List Held) where
  -- what the order has of this name on another worker's shelf lies at a place of the own shelf too
  pub record IsCopy (c : Held) : Type 0 where
    pub from : Held
    pub found : found held_name c.name held ≡ Some from
    pub elsewhere : is_elsewhere w from.at ≡ true
    pub place : PlaceSeen Block
    pub at : c.at ≡ Spot.Shelf place
    pub here : IsPlaceOf shelves place
    pub worker : place.worker ≡ w
    pub same : object_in place.at.value ≡ lies_at inputs from.at

  -- so it is of all of them, and no name stands twice
  abbrev pub Copies : List Held → Type 0
  Copies cs = Each IsCopy cs × IsDistinct same_text (names_in cs)

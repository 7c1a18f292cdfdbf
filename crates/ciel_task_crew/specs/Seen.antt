-- What contracts see of a crew of workers over a shop.
use Rattle.std.specs.Prelude.{◌≡◌, ℕ, ◌<◌, List, Bool, length, slice_index_or, Option}
use Rattle.sky_base.specs.declared.object.TaskId.{TaskId}
use Rattle.ciel_store.specs.Seen.{SeatSeen}
use Rattle.ciel_master_safe.specs.Order.{Order}
use Rattle.ciel_master_safe.specs.Shop.{Shop}

-- the shop; the order of each worker that has one, whose report wasn't given yet; for each worker the tasks that its gate tells, or will have
-- told; and whether no call has failed
pub record CrewSeen (K N : Type 0) : Type 0 where
  pub shop : Shop K N
  pub out : List (Option Order)
  pub told : List (Option (List TaskId))
  pub sound : Bool

-- all look at the shop's shelves
abbrev pub AllLook : {K N : Type 0} → Shop K N → List SeatSeen → Type 0
AllLook shop eyes = (worker : ℕ) (none : SeatSeen) → worker < length eyes → (slice_index_or eyes worker none).of ≡ shop.shelves.of

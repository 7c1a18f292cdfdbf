-- What a crew keeps that performs orders where they are sent.
use Rattle.std.specs.Prelude.{◌≡◌, ℕ, List, length, slice_index_or, Option, Some, None}
use Rattle.sky_base.specs.JobView.{job_view}
use Rattle.sky_base.specs.KitView.{Gives}
use Rattle.ciel_task.specs.Onward.{IsRead}
use Rattle.ciel_store.specs.Seen.{SeatSeen}
use Rattle.ciel_task_order.specs.Shop.{InputsInOrder}
use Rattle.ciel_task_order.specs.declared.order.Order.{Order}
use Rattle.ciel_task_order.specs.declared.shop.Shop.{Shop}
use Rattle.ciel_task.specs.Crews.{Answers}
use Rattle.ciel_task.specs.Seen.{AllLook}
use Rattle.ciel_crew_inline.specs.declared.seats.Kept.{Kept}

-- the order of a report that is kept
abbrev pub order_of : Option Kept → Option Order
order_of None = None
order_of (Some x) = Some x.of.value

-- for each kit what it gives, and for each namer its digest
module _ {K N : Type 0} (gives : K → Gives) (digest : N → List ℕ → List ℕ) (shop : Shop K N) where
  -- it is a report of an order of this worker
  abbrev pub KeptAt : ℕ → Option Kept → Type 0
  KeptAt worker None = Unit {0}
  KeptAt worker (Some x) = (x.of.value.worker ≡ worker) × Answers gives digest shop x.of.value x.report

  -- so it is of each worker
  abbrev pub KeptSo : List (Option Kept) → Type 0
  KeptSo kept = (worker : ℕ) → KeptAt worker (slice_index_or kept worker None)

  -- the job's script is read from bytes, its inputs stand in order, and each worker has an eye and what is kept of it
  pub record Stands (workers : ℕ) (eyes : List SeatSeen) (kept : List (Option Kept)) : Type 0 where
    pub read : IsRead (job_view shop.job).script
    pub inputs : InputsInOrder (job_view shop.job)
    pub many : length eyes ≡ workers
    pub all : length kept ≡ workers
    pub look : AllLook shop eyes
    pub so : KeptSo kept

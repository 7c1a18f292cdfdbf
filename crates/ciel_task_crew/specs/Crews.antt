-- What a crew keeps of the orders that are out, and what it promises of their reports.
use Rattle.std.specs.Prelude.{◌≡◌, ℕ, ◌<◌, List, [], ◌∷◌, ◌++◌, length, slice_index_or, slice_set, Option, Some, None, ◌⊎◌}
use Rattle.sky_base.specs.JobView.{job_view}
use Rattle.sky_base.specs.KitView.{Gives}
use Rattle.sky_base.specs.declared.object.TaskId.{TaskId}
use Rattle.ciel_master_safe.specs.Performs.{PerformsSafely}
use Rattle.ciel_master_safe.specs.Orders.{OrderSound}
use Rattle.ciel_master_safe.specs.TaskOrderPerforms.{Performs}
use Rattle.ciel_master_safe.specs.Places.{PlacesSound}
use Rattle.ciel_master_safe.specs.Order.{Order}
use Rattle.ciel_master_safe.specs.Report.{Report}
use Rattle.ciel_master_safe.specs.Shop.{Shop}

-- ---- orders, by worker

-- the order of a worker that has one
abbrev pub order_at : List (Option Order) → ℕ → Option Order
order_at out worker = slice_index_or out worker None

-- one is out
abbrev pub IsOut : List (Option Order) → Type 0
IsOut out = (worker : ℕ) × (order : Order) × (order_at out worker ≡ Some order)

-- ---- what gates will have told, by worker

-- with one task more, where the list is still told
abbrev pub extended : Option (List TaskId) → TaskId → Option (List TaskId)
extended None task = None
extended (Some tasks) task = Some (tasks ++ task ∷ [])

-- the same list, or it is no longer told
abbrev pub Fades : Option (List TaskId) → Option (List TaskId) → Type 0
Fades before after = (after ≡ None) ⊎ (after ≡ before)

abbrev pub FadesEach : List (Option (List TaskId)) → List (Option (List TaskId)) → Type 0
FadesEach before after =
    (length after ≡ length before) × ((k : ℕ) → k < length before → Fades (slice_index_or before k None) (slice_index_or after k None))

abbrev pub told_at : List (Option (List TaskId)) → ℕ → Option (List TaskId)
told_at told worker = slice_index_or told worker None

-- the gate of the order's worker will have told its task too
abbrev pub TellsTask : Order → (before after : List (Option (List TaskId))) → Type 0
TellsTask order before after = FadesEach (slice_set before order.worker (extended (told_at before order.worker) order.task)) after

-- ---- orders and reports of a shop

-- for each kit what it gives, and for each namer its digest
module _ {K N : Type 0} (gives : K → Gives) (digest : N → List ℕ → List ℕ) where
  -- a worker of the shop can perform it
  abbrev pub Takes : Shop K N → Order → Type 0
  Takes shop order = OrderSound (digest shop.namer) shop.shelves (job_view shop.job).script (length (job_view shop.job).inputs) order

  -- it is a report that a worker of the shop may give of the order
  pub record Answers (shop : Shop K N) (order : Order) (report : Report) : Type 0 where
    pub performs : Performs (digest shop.namer) (job_view shop.job) (gives shop.kit) order report
    pub places : PlacesSound shop.shelves order.worker (job_view shop.job).script report
    pub safely : PerformsSafely (digest shop.namer) shop.shelves (job_view shop.job).script order report

  -- it is a report of an order that was out, which is out no longer
  abbrev pub Reports : Shop K N → (before after : List (Option Order)) → Report → Type 0
  Reports shop before after report =
      (order : Order) × (order_at before report.worker ≡ Some order) × (after ≡ slice_set before report.worker None) × Answers shop order report

-- What holds of a shop of two workers, and of an order for it.
use Rattle.std.specs.Prelude.{◌≡◌, ℕ, List, [], ◌∷◌, length, replicate}
use Rattle.sha1.specs.Sha1.{sha1}
use Rattle.sky_base.specs.JobView.{job_view}
use Rattle.ciel_store.specs.Seen.{SeatSeen}
use Rattle.ciel_task_order.specs.Orders.{OrderSound, SpotSound}
use Rattle.ciel_task_order.specs.Places.{PlacesSound}
use Rattle.ciel_task_order.specs.Shop.{InputsInOrder}
use Rattle.ciel_task_order.specs.declared.block.Spot.{Spot}
use Rattle.ciel_task_order.specs.declared.order.Order.{Order}
use Rattle.ciel_task_order.specs.declared.report.Report.{Report}
use Rattle.ciel_task_order.specs.declared.shop.Shop.{Shop}

-- the names 1, 2 and 3
abbrev pub three : List (List ℕ)
three = replicate 20 1 ∷ replicate 20 2 ∷ replicate 20 3 ∷ []

module _ {K N : Type 0} (shop : Shop K N) where
  -- two workers, and one input
  pub record IsSmall : Type 0 where
    pub workers : length shop.shelves.rows ≡ 2
    pub inputs : length (job_view shop.job).inputs ≡ 1
    pub ordered : InputsInOrder (job_view shop.job)

  -- something lies at this spot
  abbrev pub LiesAt : Spot → Type 0
  LiesAt at = SpotSound shop.shelves (job_view shop.job).script (length (job_view shop.job).inputs) at

  -- a seat at the shop's shelves
  abbrev pub Looks : SeatSeen → Type 0
  Looks eye = eye.of ≡ shop.shelves.of

  -- the order can be performed
  abbrev pub CanPerform : Order → Type 0
  CanPerform order = OrderSound (λ bytes. sha1 bytes) shop.shelves (job_view shop.job).script (length (job_view shop.job).inputs) order

  abbrev pub Placed : Order → Report → Type 0
  Placed order report = PlacesSound shop.shelves order.worker (job_view shop.job).script report

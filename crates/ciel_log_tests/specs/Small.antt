-- What holds of a shop of one worker, and of an order for it.
use Rattle.std.specs.Prelude.{◌≡◌, length}
use Rattle.sha1.specs.Sha1.{sha1}
use Rattle.sky_base.specs.JobView.{job_view}
use Rattle.ciel_task_order.specs.Orders.{OrderSound}
use Rattle.ciel_task_order.specs.declared.order.Order.{Order}
use Rattle.ciel_task_order.specs.declared.shop.Shop.{Shop}

module _ {K N : Type 0} (shop : Shop K N) where
  -- one worker, and one input
  pub record IsSmall : Type 0 where
    pub workers : length shop.shelves.rows ≡ 1
    pub inputs : length (job_view shop.job).inputs ≡ 1

  -- the order can be performed
  abbrev pub CanPerform : Order → Type 0
  CanPerform order = OrderSound (λ bytes. sha1 bytes) shop.shelves (job_view shop.job).script (length (job_view shop.job).inputs) order

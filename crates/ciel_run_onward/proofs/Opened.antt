-- A crew that was opened is of its shop, and its workers have no order.
use Rattle.std.proofs.Common.{◌≡◌, ℕ, List, Option, None, true, replicate, sym, subst}
use Rattle.sky_base.specs.See as s
use Rattle.sky_base.specs.declared.object.TaskId.{TaskId}
use Rattle.ciel_log_file.specs.Sending.{nobody}
use Rattle.ciel_run_drive.specs.TaskCrewSeen.{CrewSeen}
use Rattle.ciel_task_order.specs.declared.order.Order.{Order}
use Rattle.ciel_task_order.specs.declared.shop.Shop.{Shop}

module _ {K N : Type 0} (shop : Shop K N) (workers many : ℕ) (told : List (Option (List TaskId))) (same : many ≡ workers) (crew : CrewSeen K N)
    (is : crew ≡ record { shop = shop; out = replicate many None; told = told; sound = true }) where
  -- what is so of its shop and of so many workers without an order is so of the crew
  pub of_crew : (P : Shop K N → List (Option Order) → Type 0) → P shop (nobody workers) → P crew.shop crew.out
  of_crew P p = subst (λ (c : CrewSeen K N). P c.shop c.out) (sym is) (subst (λ (n : ℕ). P shop (nobody n)) (sym same) p)

  pub of_shop : (P : Shop K N → List (Option Order) → Type 0) → P crew.shop crew.out → P shop (nobody workers)
  of_shop P p = subst (λ (n : ℕ). P shop (nobody n)) same (subst (λ (c : CrewSeen K N). P c.shop c.out) is p)

-- What a run begins with.
use Rattle.std.specs.Prelude.{◌≡◌, ℕ, List, [], length, All}
use Rattle.sky_base.specs.Val.{no_pairs, no_vals}
use Rattle.sky_base.specs.declared.job.Job.{Job}
use Rattle.sky_base.specs.declared.object.Desc1.{Desc1}
use Rattle.sky_base.specs.declared.object.Named.{Named}
use Rattle.ciel_master_board.specs.Moves.{opened}
use Rattle.ciel_master_board.specs.Reports.{IsNamed}
use Rattle.ciel_run_drive.specs.Seen.{MasterSeen, plan_view}
use Rattle.ciel_run_drive.specs.RunPlan.{RunPlan}
use Rattle.ciel_store.specs.Seen.{SeatSeen}
use Rattle.ciel_task_order.specs.declared.shop.Shop.{Shop}

-- the shop has this job, this kit and this namer
pub record ShopOf {K N : Type 0} (job : Job) (kit : K) (namer : N) (shop : Shop K N) : Type 0 where
  pub job_is : shop.job ≡ job
  pub kit_is : shop.kit ≡ kit
  pub namer_is : shop.namer ≡ namer

-- there is a shelf and an eye for each worker of the plan, and a master of this shop that has started nothing
pub record IsOpened {K N : Type 0} (digest : N → List ℕ → List ℕ) (plan : RunPlan) (shop : Shop K N) (m : MasterSeen N)
    (eyes : List SeatSeen) : Type 0 where
  pub main : Named
  pub named : IsNamed (digest shop.namer) main
  pub is_main : main.desc ≡ Desc1.Call [] no_pairs no_vals
  pub wide : length shop.shelves.rows ≡ plan.workers
  pub many : length eyes ≡ plan.workers
  pub look : All (λ (e : SeatSeen). e.of ≡ shop.shelves.of) eyes
  pub master : m ≡ record {
    namer = shop.namer;
    shelves = shop.shelves;
    script = shop.job.script;
    board =
        opened (digest shop.namer) (plan_view plan) shop.job.script.keys main;
  }

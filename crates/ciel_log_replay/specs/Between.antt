-- What holds between two records of a replay, whatever the file says.
use Rattle.std.specs.Prelude.{◌≡◌, ℕ, ◌*◌, List, true, Option, Some}
use Rattle.sky_base.specs.JobView.{job_view}
use Rattle.sky_base.specs.KitView.{Gives}
use Rattle.sky_base.specs.See as s
use Rattle.ciel_journal.specs.Job.{Job}
use Rattle.ciel_journal.specs.Turns.{state_after}
use Rattle.ciel_master.specs.Seen.{MasterSeen}
use Rattle.ciel_master_board.specs.Board.{Board, find_order}
use Rattle.ciel_run_drive.specs.Working.{Working}
use Rattle.ciel_task_crew.specs.Crews.{order_at}
use Rattle.ciel_task_order.specs.Performs.{the_shop}
use Rattle.ciel_task_order.specs.Views.{P, out_view}
use Rattle.ciel_task_order.specs.declared.order.Order.{Order}
use Rattle.ciel_task_order.specs.declared.shop.Shop.{Shop}

-- each order of the list is out
abbrev pub AllOut : Board P → List (Option Order) → Type 0
AllOut b out = (w : ℕ) (order : Order) → order_at out w ≡ Some order → find_order order.number b.orders ≡ Some (out_view order)

-- for each kit what it gives, and for each namer its digest
module _ {K N : Type 0} (gives : K → Gives) (digest : N → List ℕ → List ℕ) where
  -- the job of a shop
  abbrev pub job_of : Shop K N → Job s.Desc
  job_of shop = (the_shop (digest shop.namer) (job_view shop.job) (gives shop.kit)).job

  -- The master is at work with the orders of the list, by worker, each of which is out; and the generator of draws is where the number of
  -- Starts says. Nothing is said of a history
  pub record Between (shop : Shop K N) (m : MasterSeen N) (out : List (Option Order)) (state : ℕ) : Type 0 where
    pub working : Working gives digest shop true m out
    pub all_out : AllOut m.board out
    pub draws : state ≡ state_after m.board.plan.seed (2 * m.board.starts)

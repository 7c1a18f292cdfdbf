-- What holds of a master and its crew between two turns of a run, as long as reports are the job's.
use Rattle.std.specs.Prelude.{◌≡◌, ℕ, ◌*◌, List, map, Bool, Option}
use Rattle.std.specs.Option.{option_map}
use Rattle.sky_base.specs.JobView.{job_view}
use Rattle.sky_base.specs.KitView.{Gives}
use Rattle.sky_base.specs.See as s
use Rattle.ciel_journal.specs.History.{Event}
use Rattle.ciel_journal.specs.Turns.{state_after}
use Rattle.ciel_master_board.specs.Driving.{Runs}
use Rattle.ciel_task_crew.specs.Turns.{most_waits}
use Rattle.ciel_master_law.specs.Ends.{IsOrderly, worker_of}
use Rattle.ciel_master.specs.Seen.{MasterSeen}
use Rattle.ciel_name_law.specs.Typed.{NamedUseNothing}
use Rattle.ciel_task_order.specs.Performs.{the_shop}
use Rattle.ciel_task_order.specs.Views.{P, order_view}
use Rattle.ciel_task_order.specs.declared.order.Order.{Order}
use Rattle.ciel_task_order.specs.declared.shop.Shop.{Shop}
use Rattle.ciel_master_board.specs.Handed.{OrdersOf}
use Rattle.ciel_master_board.specs.Left.{Slots, work}

-- the orders that workers have, as the turns see them
abbrev pub slots_of : List (Option Order) → Slots P
slots_of out = map (option_map order_view) out

-- for each kit what it gives, and for each namer its digest
module _ {K N : Type 0} (gives : K → Gives) (digest : N → List ℕ → List ℕ) where
  -- Of a master and a crew of this shop, with the state of the generator of draws: a run with this history came to the master's state, and
  -- what the crew has are orders of it. What holds whatever was reported is said by `Working`
  pub record Kept (shop : Shop K N) (unbroken : Bool) (m : MasterSeen N) (out : List (Option Order)) (state : ℕ) : Type 0 where
    pub orderly : IsOrderly (digest shop.namer) (job_view shop.job) (gives shop.kit)
    pub bare : NamedUseNothing (job_view shop.job).script.funs
    pub history : List (Event s.Desc)
    pub runs : Runs (the_shop (digest shop.namer) (job_view shop.job) (gives shop.kit)) history m.board
    pub orders : OrdersOf (the_shop (digest shop.namer) (job_view shop.job) (gives shop.kit)) history (slots_of out)
    pub draws : state ≡ state_after m.board.plan.seed (2 * m.board.starts)

module _ {N : Type 0} where
  -- what is left to do
  abbrev pub left : MasterSeen N → List (Option Order) → ℕ
  left m out = work worker_of most_waits m.board (slots_of out)

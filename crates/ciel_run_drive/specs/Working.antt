-- What holds of a master and its crew between two turns, whatever was reported before.
use Rattle.std.specs.Prelude.{◌≡◌, ℕ, List, length, Bool, true, Option, Some}
use Rattle.sky_base.specs.JobView.{job_view}
use Rattle.sky_base.specs.KitView.{Gives}
use Rattle.ciel_task_crew.specs.Crews.{order_at}
use Rattle.ciel_master.specs.Seen.{MasterSeen}
use Rattle.ciel_master_board.specs.Board.{Board}
use Rattle.ciel_journal.specs.Job.{In}
use Rattle.ciel_task_crew.specs.Safe.{GoesBy, Safe}
use Rattle.ciel_task_crew.specs.Turns.{AtWork}
use Rattle.ciel_task_order.specs.Performs.{HasRows}
use Rattle.ciel_task_order.specs.Views.{P, out_view}
use Rattle.ciel_task_order.specs.declared.order.Order.{Order}
use Rattle.ciel_task_order.specs.declared.shop.Shop.{Shop}
use Rattle.ciel_run_drive.specs.Kept.{slots_of}

-- for each kit what it gives, and for each namer its digest
module _ {K N : Type 0} (gives : K → Gives) (digest : N → List ℕ → List ℕ) where
  -- the master is at work with what the crew has, of one shop, where no call of the crew has failed; and its table has rows for what is
  -- out. Nothing is said of a history
  pub record Working (shop : Shop K N) (unbroken : Bool) (m : MasterSeen N) (out : List (Option Order)) : Type 0 where
    pub namer : m.namer ≡ shop.namer
    pub shelves : m.shelves ≡ shop.shelves
    pub script : m.script ≡ (job_view shop.job).script
    pub sound : unbroken ≡ true
    pub work : AtWork (digest shop.namer) shop.shelves (job_view shop.job).script (length (job_view shop.job).inputs) m.board (slots_of out)
    pub rows : (w : ℕ) (order : Order) → order_at out w ≡ Some order → HasRows (digest shop.namer) m.board.table order
    pub mains : (w : ℕ) (order : Order) → order_at out w ≡ Some order → order.main ≡ m.board.main
    pub goes : (w : ℕ) (order : Order) → order_at out w ≡ Some order → GoesBy m.board.table order.task order.desc

-- the order is out in a master's state that is safe for the shop
abbrev pub IsSentOf : {K N : Type 0} → (N → List ℕ → List ℕ) → Shop K N → Board P → Order → Type 0
IsSentOf digest shop b order =
    Safe (digest shop.namer) shop.shelves (job_view shop.job).script (length (job_view shop.job).inputs) b × In (out_view order) b.orders

-- What a crew may be told beside an order: the task that follows the order's.
use Rattle.std.specs.Prelude.{ℕ, List, Some, length}
use Rattle.sky_base.specs.JobView.{job_view}
use Rattle.sky_base.specs.Tree.{Script}
use Rattle.sky_base.specs.declared.object.Desc1.{Desc1}
use Rattle.ciel_master_safe.specs.Board.{Board, FollowerOf}
use Rattle.ciel_journal.specs.Job.{In}
use Rattle.ciel_master_safe.specs.Safe.{Safe}
use Rattle.ciel_store.specs.Seen.{ShelvesSeen}
use Rattle.ciel_master_safe.specs.Views.{P, out_view}
use Rattle.ciel_master_safe.specs.Order.{Order}
use Rattle.ciel_master_safe.specs.Shop.{Shop}

-- in a state of a master that is safe for this shop the order is out, and this is the task that follows its own, by its first output.
-- So where the state follows a history, the task is reached after it
pub record Leads (digest : List ℕ → List ℕ) (shelves : ShelvesSeen) (sc : Script) (inputs : ℕ) (order : Order) (consumer : Desc1) : Type 0 where
  pub board : Board P
  pub safe : Safe digest shelves sc inputs board
  pub out : In (out_view order) board.orders
  pub follower : FollowerOf board order.task (Some consumer)

-- for each namer its digest
abbrev pub LeadsTo : {K N : Type 0} → (N → List ℕ → List ℕ) → Shop K N → Order → Desc1 → Type 0
LeadsTo digest shop order consumer =
    Leads (digest shop.namer) shop.shelves (job_view shop.job).script (length (job_view shop.job).inputs) order consumer

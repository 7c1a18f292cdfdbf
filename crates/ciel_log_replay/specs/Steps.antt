-- The steps of a replay: losses that are due, and the Start that comes next.
use Rattle.std.specs.Prelude.{◌≡◌, ℕ, List, [], ◌∷◌, ◌++◌, cond, Option, Some, None, is_some, slice_set}
use Rattle.std.specs.Option.{option_and_then}
use Rattle.sky_base.specs.declared.object.TaskId.{TaskId}
use Rattle.ciel_journal.specs.Entries.{Entry}
use Rattle.ciel_journal.specs.Turns.{FirstDue}
use Rattle.ciel_master_board.specs.Board.{Board, find_order, wait_number}
use Rattle.ciel_master_board.specs.Driving.{Picked}
use Rattle.ciel_master_board.specs.Moves.{lost_at, order_for, started}
use Rattle.ciel_master_law.specs.Ends.{worker_of}
use Rattle.ciel_table.specs.Seen.{last_wait}
use Rattle.ciel_task_order.specs.Views.{P, order_view}
use Rattle.ciel_task_order.specs.declared.order.Order.{Order}

-- from one state to another by losses, each the first that was due, with the entries of them
pub data LostBy : Board P → List Entry → Board P → Type 0 where
  stays : {b : Board P} → LostBy b [] b
  loses : {b c : Board P} {es : List Entry} (loss w : ℕ) → LostBy b es c → FirstDue c.plan.losses c.closes c.table.gone loss w
      → LostBy b (es ++ Entry.Lost w c.closes ∷ []) (lost_at worker_of w c)

-- what a worker has, while its number is out
abbrev pub while_out : Board P → Option Order → Option Order
while_out b o = option_and_then (λ (x : Order). cond (is_some (find_order x.number b.orders)) (Some x) None) o

-- it is the Start that the draws choose
pub record IsNextStart (b : Board P) (number worker from : ℕ) (task : TaskId) : Type 0 where
  pub picked : Picked b task worker
  pub counted : number ≡ b.starts
  pub waits : from ≡ wait_number (last_wait task b.table)

-- the Start of a task at a worker was made between these states: the order that it gives stands in the list, at the worker
pub record HasStarted (b c : Board P) (before after : List (Option Order)) (task : TaskId) (worker : ℕ) : Type 0 where
  pub board : c ≡ started worker_of b task worker
  pub order : Order
  pub view : order_view order ≡ order_for worker_of b task worker
  pub listed : after ≡ slice_set before worker (Some order)

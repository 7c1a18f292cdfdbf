-- The laws of a state that is safe.
use Rattle.std.specs.Prelude.{◌≡◌, ℕ, ◌≤◌, List, [], length, Option, Some}
use Rattle.sky_base.specs.Tree.{Script}
use Rattle.sky_base.specs.Val.{no_pairs, no_vals}
use Rattle.sky_base.specs.declared.object.Desc1.{Desc1}
use Rattle.sky_base.specs.declared.object.Named.{Named}
use Rattle.sky_base.specs.declared.object.TaskId.{TaskId}
use Rattle.ciel_master_board.specs.Board.{Board, Order, OrderOut, board_graph, find_order, idle_of}
use Rattle.ciel_master_board.specs.Moves.{accepted, lost_at, opened, order_for, started}
use Rattle.ciel_master_board.specs.Reports.{AllLearned, End, IsNamed}
use Rattle.ciel_journal.specs.Graph.{Runnable}
use Rattle.ciel_journal.specs.History.{Plan}
use Rattle.ciel_journal.specs.Job.{In}
use Rattle.ciel_store.specs.Seen.{ShelvesSeen}
use Rattle.ciel_table.specs.Seen.{Known, TableSeen}
use Rattle.ciel_task_order.specs.Orders.{OrderSound}
use Rattle.ciel_task_order.specs.Performs.{HasRows}
use Rattle.ciel_task_order.specs.Views.{P, order_view}
use Rattle.ciel_task_order.specs.declared.order.Order as rust
use Rattle.ciel_master_safe.specs.Reports.{FitsSafely}
use Rattle.ciel_master_safe.specs.Safe.{GoesBy, Safe, W}

-- said of each state that is safe
abbrev OfSafe : ((digest : List ℕ → List ℕ) → ShelvesSeen → Script → ℕ → Board P → Type 0) → Type 0
OfSafe Q =
    (digest : List ℕ → List ℕ) (shelves : ShelvesSeen) (sc : Script) (inputs : ℕ) (b : Board P) → Safe digest shelves sc inputs b
    → Q digest shelves sc inputs b

-- the order for a task that can run at an idle worker is sound for the shop, and the table has rows for what it brings along
pub record OrderIsGood (digest : List ℕ → List ℕ) (shelves : ShelvesSeen) (sc : Script) (inputs : ℕ) (b : Board P) (order : rust.Order) : Type 0 where
  pub sound : OrderSound digest shelves sc inputs order
  pub rows : HasRows digest b.table order
  pub goes : GoesBy b.table order.task order.desc

abbrev pub SafeOrders : Type 0
SafeOrders =
    OfSafe (λ digest shelves sc inputs b. (task : TaskId) (w : ℕ) → Runnable (board_graph b) task → In w (idle_of b) → (order : rust.Order)
    → order_view order ≡ order_for W b task w → OrderIsGood digest shelves sc inputs b order)

abbrev pub SafeStart : Type 0
SafeStart =
    OfSafe (λ digest shelves sc inputs b. (task : TaskId) (w : ℕ) → Runnable (board_graph b) task → In w (idle_of b)
    → Safe digest shelves sc inputs (started W b task w))

abbrev pub SafeReport : Type 0
SafeReport =
    OfSafe (λ digest shelves sc inputs b. (x : Order P) (k : ℕ) → find_order k b.orders ≡ Some x.out → (spawned : List Named) (end : End P)
    → FitsSafely digest shelves sc b x spawned end → AllLearned digest spawned b.table
    → Safe digest shelves sc inputs (accepted digest W b x.out spawned end))

abbrev pub SafeLoss : Type 0
SafeLoss = OfSafe (λ digest shelves sc inputs b. (w : ℕ) → Safe digest shelves sc inputs (lost_at W w b))

abbrev pub SafeOpened : Type 0
SafeOpened =
    (digest : List ℕ → List ℕ) (shelves : ShelvesSeen) (sc : Script) (p : Plan) (main : Named)
    → 1 ≤ p.limit → IsNamed digest main → main.desc ≡ Desc1.Call [] no_pairs no_vals → p.workers ≤ length shelves.rows
    → Safe digest shelves sc (length sc.keys) (opened digest p sc.keys main)

-- what an order goes by stays
pub record GoesStay : Type 0 where
  pub accepted : (digest : List ℕ → List ℕ) (b : Board P) (x : OrderOut) (spawned : List Named) (end : End P) (task : TaskId) (d : Option Desc1)
      → GoesBy b.table task d → GoesBy (accepted digest W b x spawned end).table task d
  pub lost : (b : Board P) (w : ℕ) (task : TaskId) (d : Option Desc1) → GoesBy b.table task d → GoesBy (lost_at W w b).table task d

-- each name that has a row keeps one
abbrev pub GrowsTo : TableSeen P → TableSeen P → Type 0
GrowsTo t u = (n : List ℕ) → Known t n → Known u n

-- what a master's table has rows for it keeps rows for, and so for what an order brings along
pub record RowsStay : Type 0 where
  pub accepted : (digest : List ℕ → List ℕ) (b : Board P) (x : OrderOut) (spawned : List Named) (end : End P)
      → GrowsTo b.table (accepted digest W b x spawned end).table
  pub lost : (b : Board P) (w : ℕ) → GrowsTo b.table (lost_at W w b).table
  pub order : (digest : List ℕ → List ℕ) (t u : TableSeen P) (order : rust.Order) → GrowsTo t u → HasRows digest t order → HasRows digest u order

-- The turns of a run, whatever was reported: each leaves less to do.
use Rattle.std.specs.Prelude.{◌≡◌, ℕ, ◌≤◌, ◌<◌, List, [], length, replicate, false, Some, None, slice_get, slice_set}
use Rattle.sky_base.specs.Res.{visits}
use Rattle.sky_base.specs.Tree.{Script}
use Rattle.sky_base.specs.Val.{no_pairs, no_vals}
use Rattle.sky_base.specs.declared.object.Desc1.{Desc1}
use Rattle.sky_base.specs.declared.object.Named.{Named}
use Rattle.sky_base.specs.declared.object.TaskId.{TaskId}
use Rattle.ciel_master_board.specs.Board.{Board, Order, board_graph, find_order, idle_of}
use Rattle.ciel_master_board.specs.Moves.{accepted, lost_at, missed_at, opened, order_for, started}
use Rattle.ciel_master_board.specs.Reports.{AllLearned, End, IsNamed}
use Rattle.ciel_master_board.specs.Sound.{MissingFits}
use Rattle.ciel_journal.specs.Graph.{Runnable}
use Rattle.ciel_journal.specs.History.{Plan}
use Rattle.ciel_journal.specs.Job.{Digest, In}
use Rattle.ciel_journal.specs.Turns.{FirstDue}
use Rattle.ciel_store.specs.Seen.{ShelvesSeen}
use Rattle.ciel_task_order.specs.Views.{P}
use Rattle.ciel_master_board.specs.Handed.{Handed}
use Rattle.ciel_master_board.specs.TurnsLaws.{IsMissing}
use Rattle.ciel_master_board.specs.Left.{Has, Slots, work}
use Rattle.ciel_master_safe.specs.Reports.{FitsSafely}
use Rattle.ciel_master_safe.specs.Safe.{Safe, W}

-- no stack that fits has more waits: each takes a visit
abbrev pub most_waits : ℕ
most_waits = visits

module _ (digest : List ℕ → List ℕ) (shelves : ShelvesSeen) (sc : Script) (inputs : ℕ) where
  -- the master hasn't stopped, and its state is safe
  pub record AtWork (b : Board P) (slots : Slots P) : Type 0 where
    pub going : b.stopped ≡ false
    pub safe : Safe digest shelves sc inputs b
    pub handed : Handed b slots

  -- there is less to do
  pub record Turned (b : Board P) (slots : Slots P) (c : Board P) (then : Slots P) : Type 0 where
    pub at_work : AtWork c then
    pub less : work W most_waits c then < work W most_waits b slots

-- at the beginning no worker has an order
abbrev pub OpenedIsAtWork : Type 0
OpenedIsAtWork =
    (digest : List ℕ → List ℕ) (shelves : ShelvesSeen) (sc : Script) (p : Plan) (main : Named)
    → 1 ≤ p.limit → IsNamed digest main → main.desc ≡ Desc1.Call [] no_pairs no_vals → p.workers ≤ length shelves.rows
    → AtWork digest shelves sc (length sc.keys) (opened digest p sc.keys main) (replicate p.workers None)

-- said of each master at work
abbrev OfWork : ((digest : List ℕ → List ℕ) → ShelvesSeen → Script → ℕ → Board P → Slots P → Type 0) → Type 0
OfWork Q =
    (digest : List ℕ → List ℕ) (shelves : ShelvesSeen) (sc : Script) (inputs : ℕ) (b : Board P) (slots : Slots P)
    → AtWork digest shelves sc inputs b slots → Q digest shelves sc inputs b slots

abbrev pub LossTurns : Type 0
LossTurns =
    OfWork (λ digest shelves sc inputs b slots. (loss w : ℕ) → FirstDue b.plan.losses b.closes b.table.gone loss w
    → Turned digest shelves sc inputs b slots (lost_at W w b) slots)

-- any start of a task that can run, whoever picked it
abbrev pub StartTurns : Type 0
StartTurns =
    OfWork (λ digest shelves sc inputs b slots. (task : TaskId) (w : ℕ) → Runnable (board_graph b) task → In w (idle_of b)
    → (slice_get slots w ≡ Some None)
    × Turned digest shelves sc inputs b slots (started W b task w) (slice_set slots w (Some (order_for W b task w))))

abbrev pub ThrownTurns : Type 0
ThrownTurns =
    OfWork (λ digest shelves sc inputs b slots. (w : ℕ) (x : Order P) → Has slots w x → find_order x.out.number b.orders ≡ None
    → Turned digest shelves sc inputs b slots b (slice_set slots w None))

-- any report that fits, whatever it says
abbrev pub ReportTurns : Type 0
ReportTurns =
    OfWork (λ digest shelves sc inputs b slots. (w : ℕ) (x : Order P) → Has slots w x → find_order x.out.number b.orders ≡ Some x.out
    → (spawned : List Named) (how : End P) → FitsSafely digest shelves sc b x spawned how → (IsMissing how → ⊥)
    → AllLearned digest spawned b.table → (accepted digest W b x.out spawned how).stopped ≡ false
    → Turned digest shelves sc inputs b slots (accepted digest W b x.out spawned how) (slice_set slots w None))

abbrev pub MissedTurns : Type 0
MissedTurns =
    OfWork (λ digest shelves sc inputs b slots. (w : ℕ) (x : Order P) → Has slots w x → find_order x.out.number b.orders ≡ Some x.out
    → (name : Digest) (loss : ℕ) → MissingFits digest W b x name loss
    → Turned digest shelves sc inputs b slots (missed_at digest b x.out name loss) (slice_set slots w None))

-- Runs: the master's state after a history whose events come in their turns.
use Rattle.std.specs.Prelude.{◌≡◌, ℕ, ◌+◌, ◌*◌, ◌%◌, List, [], ◌∷◌, ◌++◌, length, false, Some, slice_get, ◌⊎◌}
use Rattle.sky_base.specs.declared.object.Named.{Named}
use Rattle.sky_base.specs.declared.object.TaskId.{TaskId}
use Rattle.ciel_journal.specs.Graph.{Picks, Runnable}
use Rattle.ciel_journal.specs.History.{Event, OpenStart, find_open, standing}
use Rattle.ciel_journal.specs.Job.{Digest}
use Rattle.ciel_journal.specs.Turns.{Driven, FirstDue, NothingDue, draw}
use Rattle.ciel_journal_job.specs.Report as r
use Rattle.ciel_want.specs.Waited.{tasks_in_order}
use Rattle.ciel_master_board.specs.Board.{Board, Order, board_graph, find_order, idle_of}
use Rattle.ciel_master_board.specs.Follows.{Follows, OrderIs}
use Rattle.ciel_master_board.specs.Laws.{LiesUnlessClash, Taken}
use Rattle.ciel_master_board.specs.Moves.{accepted, lost_at, missed_at, started}
use Rattle.ciel_master_board.specs.Reports.{AllLearned, End, report_view}
use Rattle.ciel_master_board.specs.Setting.{IsSetting, Setting}
use Rattle.ciel_master_board.specs.Sound.{MissingFits, Sound}

module _ {P : Type 0} (b : Board P) where
  -- no loss is due
  abbrev pub Quiet : Type 0
  Quiet = NothingDue b.plan.losses b.closes b.table.gone

  -- these tasks can run, in their order
  abbrev pub CanRun : List TaskId → Type 0
  CanRun ts = Picks (Runnable (board_graph b)) (tasks_in_order b.table) ts

  -- no loss is due, and two draws choose the task and the worker
  pub record Picked (x : TaskId) (w : ℕ) : Type 0 where
    pub quiet : Quiet
    pub tasks : List TaskId
    pub runnable : CanRun tasks
    pub task : slice_get tasks (draw b.plan.seed (2 * b.starts) % length tasks) ≡ Some x
    pub worker : slice_get (idle_of b) (draw b.plan.seed (2 * b.starts + 1) % length (idle_of b)) ≡ Some w

  -- no loss is due, and nothing can be started
  abbrev pub RestsNow : Type 0
  RestsNow = Quiet × (CanRun [] ⊎ (idle_of b ≡ []))

module _ {D P B : Type 0} (s : Setting D P B) where
  -- the state follows a history whose events came in their turns
  pub record Runs (h : List (Event D)) (b : Board P) : Type 0 where
    pub follows : Follows s h b
    pub driven : Driven s.job b.plan h

  -- an event more
  pub record RunsOn (h : List (Event D)) (c : Board P) : Type 0 where
    pub event : Event D
    pub runs : Runs (h ++ event ∷ []) c

module _ (D P B : Type 0) where
  -- said of each setting, of each run, and of each sound state after it that hasn't stopped
  abbrev OfRun : ((s : Setting D P B) → List (Event D) → Board P → Type 0) → Type 0
  OfRun Q =
      (s : Setting D P B) → IsSetting s → (h : List (Event D)) (b : Board P)
      → Sound s.digest s.at b → Runs s h b → b.stopped ≡ false → Q s h b

  -- the start that the draws choose is in its turn
  abbrev pub StartRuns : Type 0
  StartRuns = OfRun (λ s h b. (x : TaskId) (w : ℕ) → Picked b x w → RunsOn s h (started s.at b x w))

  -- where nothing can be started, so is a report that is taken
  abbrev pub ReportRuns : Type 0
  ReportRuns =
      OfRun (λ s h b. RestsNow b → (x : Order P) (o : OpenStart D) (k : ℕ) (spawned : List Named) (end : End P)
      → Taken s h b x o k spawned end → (r.IsMissing (report_view k spawned end).end → ⊥)
      → AllLearned s.digest spawned b.table → LiesUnlessClash s h b.plan o k spawned end
      → RunsOn s h (accepted s.digest s.at b x.out spawned end))

  abbrev pub MissedRuns : Type 0
  MissedRuns =
      OfRun (λ s h b. RestsNow b → (x : Order P) (o : OpenStart D) (k : ℕ) → find_order k b.orders ≡ Some x.out
      → find_open s.job k (standing s.job h).orders ≡ Some o → OrderIs s o x
      → (name : Digest) (loss : ℕ) → MissingFits s.digest s.at b x name loss
      → RunsOn s h (missed_at s.digest b x.out name loss))

  -- and so is the first loss that is due
  abbrev pub LossRuns : Type 0
  LossRuns =
      OfRun (λ s h b. (w loss : ℕ) → FirstDue b.plan.losses b.closes b.table.gone loss w → RunsOn s h (lost_at s.at w b))

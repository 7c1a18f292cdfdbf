-- The laws of turns: each is an event of the run's history, or ends the run.
use Rattle.std.specs.Prelude.{◌≡◌, ℕ, ◌<◌, List, [], ◌∷◌, ◌++◌, true, false, Some, None, nat_lt, slice_set, ◌&&◌, ◌↔◌}
use Rattle.sky_base.specs.declared.object.Named.{Named}
use Rattle.sky_base.specs.declared.object.TaskId.{TaskId}
use Rattle.ciel_journal.specs.Graph.{Runnable}
use Rattle.ciel_journal.specs.History.{Event, OpenStart, Plan, find_open, standing}
use Rattle.ciel_journal.specs.Job.{Digest, Ends, In, show}
use Rattle.ciel_journal.specs.Laws.{ShowDone}
use Rattle.ciel_journal.specs.Turns.{FirstDue, is_idle}
use Rattle.ciel_journal_job.specs.Report as r
use Rattle.ciel_master_board.specs.Board.{Board, Order, OrderOut, board_graph, find_order, idle_of, workers_out}
use Rattle.ciel_master_board.specs.Driving.{CanRun, Picked, RestsNow, Runs}
use Rattle.ciel_master_board.specs.Follows.{OrderIs}
use Rattle.ciel_master_board.specs.Laws.{LiesUnlessClash, Taken}
use Rattle.ciel_master_board.specs.Moves.{accepted, lost_at, missed_at, opened, order_for, started}
use Rattle.ciel_master_board.specs.Reports.{AllLearned, End, IsNamed, made, missing, named_view, report_view, saved}
use Rattle.ciel_master_board.specs.Setting.{IsSetting, Setting}
use Rattle.ciel_master_board.specs.Sound.{Fits, MissingFits, Sound}
use Rattle.ciel_master_board.specs.Handed.{Handed, IsLost, OneEventMore, OrdersOf}
use Rattle.ciel_master_board.specs.Left.{Has, Slots, busy}

-- ---- what a worker promises

abbrev pub IsMissing : {P : Type 0} → End P → Type 0
IsMissing (made ms cs) = ⊥
IsMissing (saved q) = ⊥
IsMissing (missing name loss) = Unit {0}

module _ {D P B : Type 0} (s : Setting D P B) where
  -- of the report of an order that is out after this history: it fits, it says what the job does, and what the job has is at its
  -- places
  pub record Promised (h : List (Event D)) (b : Board P) (x : Order P) (spawned : List Named) (end : End P) : Type 0 where
    pub fits : Fits s.digest s.at b x spawned end
    pub says : (o : OpenStart D) → OrderIs s o x → r.FirstApart s.job s.inner o
        → r.Says s.job s.inner s.lower o (report_view x.out.number spawned end)
    pub lies : (o : OpenStart D) → find_open s.job x.out.number (standing s.job h).orders ≡ Some o → OrderIs s o x
        → LiesUnlessClash s h b.plan o x.out.number spawned end

  -- the order that a worker has is out: it is that of an open Start, and no two descriptions that its task has there share a name
  pub record IsOut (h : List (Event D)) (b : Board P) (x : Order P) : Type 0 where
    pub found : find_order x.out.number b.orders ≡ Some x.out
    pub start : OpenStart D
    pub is_open : find_open s.job x.out.number (standing s.job h).orders ≡ Some start
    pub order : OrderIs s start x
    pub apart : r.FirstApart s.job s.inner start

  -- the order is that of a new open Start, which is one event more
  pub record StartTurned (h : List (Event D)) (b : Board P) (slots : Slots P) (x : TaskId) (w : ℕ) : Type 0 where
    pub start : OpenStart D
    pub order : OrderIs s start (order_for s.at b x w)
    pub apart : r.FirstApart s.job s.inner start
    pub more : OneEventMore s h (started s.at b x w) (slice_set slots w (Some (order_for s.at b x w)))

  -- the run ends with the event that the report tells, the Done of the root task, which comes to its end
  pub record RunEnded (h : List (Event D)) (x : Order P) (spawned : List Named) (end : End P) (c : Board P) : Type 0 where
    pub event : Event D
    pub tells : r.report_of s.job s.inner s.lower event ≡ Some (report_view x.out.number spawned end)
    pub runs : Runs s (h ++ event ∷ []) c
    pub done : ShowDone s.job (h ++ event ∷ [])
    pub ends : Ends s.job show

module _ (P : Type 0) where
  -- ---- who can work

  -- a worker that is idle is in the list of them
  abbrev pub IdleIsListed : Type 0
  IdleIsListed =
      (b : Board P) (w : ℕ) → (nat_lt w b.plan.workers && is_idle b.table.gone (workers_out b.orders) w ≡ true) ↔ In w (idle_of b)

  -- where nothing is out and not each worker is lost, there is one
  abbrev pub SomeIsIdle : Type 0
  SomeIsIdle =
      (b : Board P) → b.orders ≡ [] → (w : ℕ) → w < b.plan.workers → (IsLost b.table.gone w → ⊥) → idle_of b ≡ [] → ⊥

  -- where no task is listed that can run, none can
  abbrev pub NoneCanRun : Type 0
  NoneCanRun =
      (digest : List ℕ → List ℕ) (at : P → ℕ) (b : Board P) → Sound digest at b → CanRun b [] → (x : TaskId) → Runnable (board_graph b) x → ⊥

  -- what the draws pick can be started
  abbrev pub PickedCanStart : Type 0
  PickedCanStart = (b : Board P) (x : TaskId) (w : ℕ) → Picked b x w → Runnable (board_graph b) x × In w (idle_of b)

  -- ---- what workers have, whatever was reported

  -- an order that a worker has and whose number is out is out itself
  abbrev pub HadIsOut : Type 0
  HadIsOut =
      (b : Board P) (slots : Slots P) → Handed b slots → (w : ℕ) (x : Order P) (y : OrderOut) → Has slots w x
      → find_order x.out.number b.orders ≡ Some y → x.out ≡ y

  -- where no worker has an order, none is out
  abbrev pub NoneIsOut : Type 0
  NoneIsOut = (b : Board P) (slots : Slots P) → Handed b slots → busy slots ≡ 0 → b.orders ≡ []

module _ (D P B : Type 0) where
  -- said of each setting, of each run, and of each sound state after it that hasn't stopped
  abbrev pub OfRun : ((s : Setting D P B) → List (Event D) → Board P → Type 0) → Type 0
  OfRun Q =
      (s : Setting D P B) → IsSetting s → (h : List (Event D)) (b : Board P) → b.stopped ≡ false → Sound s.digest s.at b → Runs s h b → Q s h b

  -- ---- turns

  -- at the beginning nothing has happened
  abbrev pub OpenedRuns : Type 0
  OpenedRuns =
      (s : Setting D P B) → IsSetting s → (p : Plan) (main : Named) → IsNamed s.digest main → s.lower s.job.main ≡ named_view main
      → Runs s [] (opened s.digest p s.keys main)

  -- the loss that is due first
  abbrev pub LossTurns : Type 0
  LossTurns =
      OfRun (λ s h b. (slots : Slots P) → OrdersOf s h slots → (loss w : ℕ) → FirstDue b.plan.losses b.closes b.table.gone loss w
      → OneEventMore s h (lost_at s.at w b) slots)

  -- the start that the draws pick
  abbrev pub StartTurns : Type 0
  StartTurns =
      OfRun (λ s h b. (slots : Slots P) → Handed b slots → OrdersOf s h slots → (x : TaskId) (w : ℕ) → Picked b x w → StartTurned s h b slots x w)

  -- an order that a worker has and that is out is that of an open Start
  abbrev pub OutIsOpen : Type 0
  OutIsOpen =
      OfRun (λ s h b. (slots : Slots P) → OrdersOf s h slots → (w : ℕ) (x : Order P) → Has slots w x
      → find_order x.out.number b.orders ≡ Some x.out → IsOut s h b x)

  -- a report that is thrown away is no event
  abbrev pub ThrownTurns : Type 0
  ThrownTurns =
      (s : Setting D P B) (h : List (Event D)) (slots : Slots P) (w : ℕ) → OrdersOf s h slots → OrdersOf s h (slice_set slots w None)

  -- a report that is taken, the end of the root task too
  abbrev pub ReportTurns : Type 0
  ReportTurns =
      OfRun (λ s h b. RestsNow b → (slots : Slots P) → OrdersOf s h slots → (w : ℕ) (x : Order P) → IsOut s h b x
      → (spawned : List Named) (end : End P) → Promised s h b x spawned end → (IsMissing end → ⊥) → AllLearned s.digest spawned b.table
      → OneEventMore s h (accepted s.digest s.at b x.out spawned end) (slice_set slots w None))

  -- one that something is missing
  abbrev pub MissedTurns : Type 0
  MissedTurns =
      OfRun (λ s h b. RestsNow b → (slots : Slots P) → OrdersOf s h slots → (w : ℕ) (x : Order P) → IsOut s h b x
      → (name : Digest) (loss : ℕ) → MissingFits s.digest s.at b x name loss
      → OneEventMore s h (missed_at s.digest b x.out name loss) (slice_set slots w None))

  -- a report that is refused is one of a run all the same
  abbrev pub PromisedIsTaken : Type 0
  PromisedIsTaken =
      (s : Setting D P B) (h : List (Event D)) (b : Board P) (x : Order P) (out : IsOut s h b x) (spawned : List Named) (end : End P)
      → Promised s h b x spawned end → Taken s h b x out.start x.out.number spawned end

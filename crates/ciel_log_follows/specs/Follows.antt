-- What a replay makes of a file that begins a log of a journal.
use Rattle.std.specs.Prelude.{◌≡◌, ◌<◌, ◌*◌, ℕ, List, [], true, take, Option, None, IfNone, IfSome}
use Rattle.sky_base.specs.JobView.{job_view}
use Rattle.sky_base.specs.KitView.{Gives}
use Rattle.ciel_journal.specs.Turns.{state_after}
use Rattle.ciel_log_file.specs.Replays.{HasReplayed}
use Rattle.ciel_log_file.specs.Sending.{nobody, sent_to}
use Rattle.ciel_log_follows.specs.Begins.{BeginsLog, IsTold}
use Rattle.ciel_master.specs.Seen.{MasterSeen}
use Rattle.ciel_master.specs.declared.stop.RunEnd.{RunEnd}
use Rattle.ciel_run_drive.specs.Ended.{Ended}
use Rattle.ciel_run_drive.specs.Kept.{Kept}
use Rattle.ciel_run_drive.specs.Working.{Working}
use Rattle.ciel_task_order.specs.declared.order.Order.{Order}
use Rattle.ciel_task_order.specs.declared.shop.Shop.{Shop}

-- for each kit what it gives, and for each namer its digest
module _ {K N : Type 0} (gives : K → Gives) (digest : N → List ℕ → List ℕ) (shop : Shop K N) where
  -- nothing has happened, and no worker has an order
  pub record IsAtFirst (m : MasterSeen N) : Type 0 where
    pub working : Working gives digest shop true m (nobody m.board.plan.workers)
    pub kept : Kept gives digest shop true m (nobody m.board.plan.workers) m.board.plan.seed
    pub journal : m.board.journal ≡ []

  -- The log, which is this run's by its header, was replayed up to there: from the master's state at first to the later one, with these orders
  -- to be sent, and with this end, if it has one. Where the header is cut nothing was
  pub record CameTo (log header : List ℕ) (m : MasterSeen N) (whole : ℕ) (orders : List Order) (end : Option RunEnd) (c : MasterSeen N) : Type 0 where
    pub cut : whole ≡ 0 → c ≡ m
    pub none : whole ≡ 0 → (orders ≡ []) × (end ≡ None)
    pub replays : 0 < whole → HasReplayed (digest shop.namer) shop.shelves (job_view shop.job).script log header whole end m.board
        (nobody m.board.plan.workers) c.board (sent_to (nobody m.board.plan.workers) orders)

module _ {K N : Type 0} (gives : K → Gives) (digest : N → List ℕ → List ℕ) where
  -- said of each shop, each file that begins a log of a journal, and what it came to from the beginning of a run on
  abbrev OfReplays : ((shop : Shop K N) (log header : List ℕ) (m : MasterSeen N) (whole : ℕ) (orders : List Order) (end : Option RunEnd)
      (c : MasterSeen N) → Type 0) → Type 0
  OfReplays Q =
      (shop : Shop K N) (log header : List ℕ) (m : MasterSeen N) (whole : ℕ) (orders : List Order) (end : Option RunEnd) (c : MasterSeen N)
      → IsAtFirst gives digest shop m
      → BeginsLog (digest shop.namer) (job_view shop.job) (gives shop.kit) m.board.plan header log
      → CameTo gives digest shop log header m whole orders end c → Q shop log header m whole orders end c

  -- what stands whole is a log of the master's journal, whole
  abbrev pub ReplaysAreTold : Type 0
  ReplaysAreTold =
      OfReplays (λ shop log header m whole orders end c.
      IsTold (digest shop.namer) (job_view shop.job) (gives shop.kit) m.board.plan header c.board.journal whole (take whole log))

  -- where the run goes on, the master is kept as one that came there by itself, with what workers have once the orders are sent
  abbrev pub ReplaysAreKept : Type 0
  ReplaysAreKept =
      OfReplays (λ shop log header m whole orders end c. (state : ℕ) → state ≡ state_after c.board.plan.seed (2 * c.board.starts)
      → IfNone end (Kept gives digest shop true c (sent_to (nobody m.board.plan.workers) orders) state))

  -- where it has ended, the end is one that the journal has
  abbrev pub ReplaysAreEnded : Type 0
  ReplaysAreEnded =
      OfReplays (λ shop log header m whole orders end c. IfSome end (Ended gives digest shop m.board.plan c.board.journal))

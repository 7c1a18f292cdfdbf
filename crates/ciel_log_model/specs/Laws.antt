-- The law: a report that tells the next event of the job's own history passes the tests of its order.
use Rattle.std.specs.Prelude.{◌≡◌, ℕ, List, Some}
use Rattle.std.specs.BTreeMap.{BTreeMap, get}
use Rattle.sky_base.specs.KitView.{Gives}
use Rattle.sky_base.specs.NameOrder.{name_cmp}
use Rattle.sky_base.specs.See as s
use Rattle.sky_base.specs.declared.object.Object.{Object}
use Rattle.ciel_journal.specs.History.{Event, done, names_of, standing}
use Rattle.ciel_journal.specs.Job.{Digest, In}
use Rattle.ciel_journal.specs.Lawful.{Step}
use Rattle.ciel_log.specs.Logs.{RecordOf}
use Rattle.ciel_log_follows.specs.Begins.{ReadsEvent}
use Rattle.ciel_log_follows.specs.Keeping.{KeepsObjects}
use Rattle.ciel_log_read.specs.Recorded.{IsRecord, record_bytes}
use Rattle.ciel_log_read.specs.View.{report_view}
use Rattle.ciel_log_read.specs.declared.record.LoggedReport.{LoggedReport}
use Rattle.ciel_log_report.specs.Tests.{ReportPasses}
use Rattle.ciel_master_board.specs.Board.{Board}
use Rattle.ciel_master_board.specs.Driving.{Runs}
use Rattle.ciel_master_board.specs.Sound.{Sound}
use Rattle.ciel_master_board.specs.TurnsLaws.{IsOut}
use Rattle.ciel_master_law.specs.Ends.{IsOrderly, worker_of}
use Rattle.ciel_task_order.specs.Named.{shop_job}
use Rattle.ciel_task_order.specs.Performs.{the_shop}
use Rattle.ciel_task_order.specs.Views.{P, order_view}
use Rattle.ciel_task_order.specs.declared.order.Order.{Order}

-- an object is kept of each output of a task that came to its end, under its name
abbrev pub KeepsMade : (digest : List ℕ → List ℕ) (job : s.Job) (gives : Gives) → List (Event s.Desc) → BTreeMap Digest Object → Type 0
KeepsMade digest job gives h kept =
    (number : ℕ) (made : List (s.Desc × Digest)) (copied spawned : List s.Desc) → In (done number made copied spawned) h
    → (d : s.Desc) → In d (names_of made) → (x : Object) × (get name_cmp kept ((shop_job digest job gives).name d) ≡ Some x)

-- a master follows the history; the order is out; and the objects that are kept are the job's, each of those made so far
pub record IsAt (digest : List ℕ → List ℕ) (job : s.Job) (gives : Gives) (h : List (Event s.Desc)) (b : Board P) (kept : BTreeMap Digest Object)
    (order : Order) : Type 0 where
  pub orderly : IsOrderly digest job gives
  pub runs : Runs (the_shop digest job gives) h b
  pub sound : Sound digest worker_of b
  pub out : IsOut (the_shop digest job gives) h b (order_view order)
  pub keeps : KeepsObjects digest job gives h kept
  pub keeps_made : KeepsMade digest job gives h kept

-- then a record that tells the next event, and is a report with the order's number, passes all tests
abbrev pub OwnReportsPass : Type 0
OwnReportsPass =
    (digest : List ℕ → List ℕ) (job : s.Job) (gives : Gives) (h : List (Event s.Desc)) (b : Board P) (kept : BTreeMap Digest Object) (order : Order)
    → IsAt digest job gives h b kept order → (e : Event s.Desc) → Step (shop_job digest job gives) b.plan (standing (shop_job digest job gives) h) e
    → (bytes : List ℕ) (tells : RecordOf digest job gives h e bytes) → ReadsEvent digest job gives h e bytes tells
    → (logged : LoggedReport) → IsRecord (report_view logged) → record_bytes (report_view logged) ≡ bytes → order.number ≡ logged.number
    → ReportPasses digest job.script b kept order logged

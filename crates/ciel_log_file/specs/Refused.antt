-- Why a record of a log is refused.
use Rattle.std.specs.Prelude.{◌≡◌, ◌⊎◌, ℕ, List, ◌∷◌, Option, Some, None}
use Rattle.std.specs.BTreeMap.{BTreeMap, IsEmpty}
use Rattle.sky_base.specs.Tree.{Script}
use Rattle.sky_base.specs.declared.object.Object.{Object}
use Rattle.sky_base.specs.declared.object.TaskId.{TaskId}
use Rattle.ciel_journal.specs.Job.{Digest}
use Rattle.ciel_log_file.specs.Replays.{At, LosesDue, ReplaysRecords, ReplaysTo}
use Rattle.ciel_log_file.specs.Sending.{Placed}
use Rattle.ciel_log_file.specs.Whole.{RecordsTo}
use Rattle.ciel_log_read.specs.File.{RecordAt}
use Rattle.ciel_log_read.specs.Recorded.{IsRecord, NoRecord, dropped, record_bytes, started}
use Rattle.ciel_log_read.specs.View.{report_view}
use Rattle.ciel_log_read.specs.declared.record.LoggedReport.{LoggedReport}
use Rattle.ciel_log_replay.specs.Steps.{IsNextStart}
use Rattle.ciel_log_report.specs.Tests.{ReportRefused}
use Rattle.ciel_master.specs.declared.stop.RunEnd.{RunEnd}
use Rattle.ciel_master_board.specs.Board.{Board, find_order}
use Rattle.ciel_store.specs.Seen.{ShelvesSeen}
use Rattle.ciel_task_order.specs.Views.{P}
use Rattle.ciel_task_order.specs.declared.order.Order.{Order}

-- the digest that gives the names, and the script
module _ (digest : List ℕ → List ℕ) (sc : Script) where
  -- with no loss due, these bytes are no record; a Start that doesn't come next; the report of an order that is out, though a Start comes
  -- first, or which it doesn't fit; or that of an order that is out, dropped
  pub data RefusedNow (b : At) (bytes : List ℕ) : Type 0 where
    no_record : NoRecord bytes → RefusedNow b bytes
    no_start : (number worker from : ℕ) (task : TaskId) → IsRecord (started number worker from task)
        → record_bytes (started number worker from task) ≡ bytes → (IsNextStart b.board number worker from task → ⊥) → RefusedNow b bytes
    no_report : (logged : LoggedReport) → IsRecord (report_view logged) → record_bytes (report_view logged) ≡ bytes
        → ReportRefused digest sc b.board b.out b.kept logged → RefusedNow b bytes
    no_drop : (number : ℕ) → IsRecord (dropped number) → record_bytes (dropped number) ≡ bytes
        → (find_order number b.board.orders ≡ None → ⊥) → RefusedNow b bytes

  -- so it is behind the losses that are due; each order is at its own worker then
  pub record RefusedBehind (a : At) (bytes : List ℕ) : Type 0 where
    pub then : At
    pub losses : LosesDue a then
    pub placed : Placed then.out
    pub refused : RefusedNow then bytes

  -- it stands behind the end of the run; or the run goes on behind the records before it, and it is refused there
  abbrev pub RefusedAfter : ShelvesSeen → At → List (List ℕ) → List ℕ → Type 0
  RefusedAfter shelves a records bytes =
      ((end : RunEnd) × (c : At) × ReplaysTo digest shelves sc a records (Some end) c)
      ⊎ ((c : At) × ReplaysRecords digest shelves sc a records c × RefusedBehind c bytes)

  -- Behind the header and other records, which were replayed from this state and these orders on, with no object kept, a whole record begins
  -- at this place, and is refused
  pub record IsRefused (shelves : ShelvesSeen) (log header : List ℕ) (at : ℕ) (b : Board P) (out : List (Option Order)) : Type 0 where
    pub records : List (List ℕ)
    pub stand : RecordsTo log 0 (header ∷ records) at
    pub bytes : List ℕ
    pub next : ℕ
    pub here : RecordAt log at bytes next
    pub first : BTreeMap Digest Object
    pub empty : IsEmpty first
    pub cause : RefusedAfter shelves (record { board = b; out = out; kept = first }) records bytes

-- What the records of a log make of a master's state, of the orders that are out, and of the objects that are kept.
use Rattle.std.specs.Prelude.{◌≡◌, ℕ, List, [], ◌∷◌, ◌++◌, map, Option, Some, None}
use Rattle.std.specs.BTreeMap.{BTreeMap, IsEmpty}
use Rattle.sky_base.specs.Tree.{Script}
use Rattle.sky_base.specs.declared.object.Object.{Object}
use Rattle.sky_base.specs.declared.object.TaskId.{TaskId}
use Rattle.ciel_journal.specs.Entries.{Entry}
use Rattle.ciel_journal.specs.Job.{Digest}
use Rattle.ciel_log_file.specs.Whole.{RecordsTo}
use Rattle.ciel_log_read.specs.Recorded.{IsRecord, dropped, record_bytes, started}
use Rattle.ciel_log_read.specs.View.{report_view}
use Rattle.ciel_log_read.specs.declared.record.LoggedReport.{LoggedReport}
use Rattle.ciel_log_replay.specs.Steps.{HasStarted, IsNextStart, LostBy, while_out}
use Rattle.ciel_log_report.specs.Comes.{EndsWith, ReportTaken}
use Rattle.ciel_master.specs.Taking.{now_of}
use Rattle.ciel_master.specs.declared.stop.Now.{Now}
use Rattle.ciel_master.specs.declared.stop.RunEnd.{RunEnd}
use Rattle.ciel_master_board.specs.Board.{Board, find_order}
use Rattle.ciel_master_board.specs.Driving.{Quiet}
use Rattle.ciel_store.specs.Seen.{ShelvesSeen}
use Rattle.ciel_task_order.specs.Views.{P}
use Rattle.ciel_task_order.specs.declared.order.Order.{Order}
use Rattle.ciel_task_order.specs.declared.report.Report.{Report}

-- the master's state, the orders that are out, by worker, and the objects that are kept
pub record At : Type 0 where
  pub board : Board P
  pub out : List (Option Order)
  pub kept : BTreeMap Digest Object

-- the losses that are due were carried out, one after another; the orders that they closed are out no longer
pub record LosesDue (a b : At) : Type 0 where
  pub entries : List Entry
  pub lost : LostBy a.board entries b.board
  pub quiet : Quiet b.board
  pub listed : b.out ≡ map (while_out b.board) a.out
  pub kept : b.kept ≡ a.kept

-- the digest that gives the names, the shelves, and the script
module _ (digest : List ℕ → List ℕ) (shelves : ShelvesSeen) (sc : Script) where
  -- with no loss due, what comes of a record with these bytes: the Start that comes next; the report of an order that is out, which it fits;
  -- nothing, where the order of its number isn't out
  pub data TakesRecord (b : At) (bytes : List ℕ) : At → Type 0 where
    starts : (number worker from : ℕ) (task : TaskId) → IsRecord (started number worker from task)
        → record_bytes (started number worker from task) ≡ bytes → IsNextStart b.board number worker from task
        → {c : At} → HasStarted b.board c.board b.out c.out task worker → c.kept ≡ b.kept → TakesRecord b bytes c
    reports : (logged : LoggedReport) → IsRecord (report_view logged) → record_bytes (report_view logged) ≡ bytes → (r : Report)
        → now_of r.end ≡ Now.Goes → {c : At} → ReportTaken digest shelves sc b.board b.out b.kept logged c.board c.out c.kept r → TakesRecord b bytes c
    passes : (logged : LoggedReport) → IsRecord (report_view logged) → record_bytes (report_view logged) ≡ bytes
        → find_order logged.number b.board.orders ≡ None → TakesRecord b bytes b
    drops : (number : ℕ) → IsRecord (dropped number) → record_bytes (dropped number) ≡ bytes → find_order number b.board.orders ≡ None
        → TakesRecord b bytes b

  -- a record, behind the losses that are due
  abbrev pub TakesBehind : At → List ℕ → At → Type 0
  TakesBehind a bytes c = (b : At) × LosesDue a b × TakesRecord b bytes c

  -- the records, in order
  pub data ReplaysRecords : At → List (List ℕ) → At → Type 0 where
    over : {a : At} → ReplaysRecords a [] a
    takes : {a c d : At} {bytes : List ℕ} {more : List (List ℕ)} → TakesBehind a bytes c → ReplaysRecords c more d → ReplaysRecords a (bytes ∷ more) d

  -- with no loss due, the run ended so with a record of these bytes
  pub record EndsSo (b : At) (bytes : List ℕ) (end : RunEnd) (c : At) : Type 0 where
    pub logged : LoggedReport
    pub data_of : IsRecord (report_view logged)
    pub bytes_of : record_bytes (report_view logged) ≡ bytes
    pub ends : EndsWith digest shelves sc b.board b.out b.kept logged end c.board c.out c.kept

  -- behind the losses that are due
  abbrev pub EndsBy : At → List ℕ → RunEnd → At → Type 0
  EndsBy a bytes end c = (b : At) × LosesDue a b × EndsSo b bytes end c

  -- the run goes on behind these records; or it ended with the last of them
  abbrev pub ReplaysTo : At → List (List ℕ) → Option RunEnd → At → Type 0
  ReplaysTo a records None c = ReplaysRecords a records c
  ReplaysTo a records (Some end) c =
      (front : List (List ℕ)) × (bytes : List ℕ) × (records ≡ front ++ bytes ∷ []) × (b : At) × ReplaysRecords a front b × EndsBy b bytes end c

  -- the records of the log were replayed from this state and these orders on, with no object kept, to that state and those orders
  pub record HasReplayed (log : List ℕ) (header : List ℕ) (whole : ℕ) (end : Option RunEnd) (b : Board P) (out : List (Option Order)) (c : Board P)
      (then : List (Option Order)) : Type 0 where
    pub records : List (List ℕ)
    pub stand : RecordsTo log 0 (header ∷ records) whole
    pub first : BTreeMap Digest Object
    pub empty : IsEmpty first
    pub last : BTreeMap Digest Object
    pub replays : ReplaysTo (record { board = b; out = out; kept = first }) records end (record { board = c; out = then; kept = last })

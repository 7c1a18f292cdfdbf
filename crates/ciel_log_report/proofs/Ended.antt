-- What comes of a report, by what the master answered.
use Rattle.std.proofs.Common.{◌≡◌, ℕ, List, Option, refl}
use Rattle.std.specs.BTreeMap.{BTreeMap}
use Rattle.sky_base.specs.Tree.{Script}
use Rattle.sky_base.specs.declared.object.Object.{Object}
use Rattle.ciel_journal.specs.Job.{Digest}
use Rattle.ciel_log_read.specs.declared.record.LoggedReport.{LoggedReport}
use Rattle.ciel_log_report.specs.Accepts.{Closes, IsCame, StopsSo}
use Rattle.ciel_log_report.specs.Comes.{EndsWith, GoesOn, ReportIs, ReportTaken}
use Rattle.ciel_log_report.specs.declared.take.Came.{Came}
use Rattle.ciel_master.specs.declared.stop.RunEnd.{RunEnd}
use Rattle.ciel_master_board.specs.Board.{Board}
use Rattle.ciel_store.specs.Seen.{ShelvesSeen}
use Rattle.ciel_task_order.specs.Views.{P}
use Rattle.ciel_task_order.specs.declared.order.Order.{Order}
use Rattle.ciel_task_order.specs.declared.report.End.{End}
use Rattle.ciel_task_order.specs.declared.report.Report.{Report}

-- the run goes on only where the report was taken
pub taken_when : (came : Came) (end : End) → IsCame end came → GoesOn came → came ≡ Came.Taken
taken_when Came.Passed end is goes = absurd is
taken_when Came.Taken end is goes = refl
taken_when (Came.Ends e) end is goes = absurd goes
taken_when Came.Refused end is goes = absurd is

-- no report is passed over by a master
pub not_passed : (came : Came) (end : End) → IsCame end came → came ≡ Came.Passed → ⊥
not_passed Came.Passed end is q = is
not_passed Came.Taken end is q = cc
not_passed (Came.Ends e) end is q = cc
not_passed Came.Refused end is q = is

module _ (digest : List ℕ → List ℕ) (shelves : ShelvesSeen) (sc : Script) (b : Board P) (out : List (Option Order)) (kept : BTreeMap Digest Object)
    (logged : LoggedReport) (c : Board P) (then : List (Option Order)) (keeps : BTreeMap Digest Object) (report : Report) where
  -- the run ended with a report that was taken
  pub ends_taken : ReportTaken digest shelves sc b out kept logged c then keeps report → (e : RunEnd) → IsCame report.end (Came.Ends e)
      → Closes (Came.Ends e) → EndsWith digest shelves sc b out kept logged e c then keeps
  ends_taken t (RunEnd.Answer text) is closes = (report, t, is)
  ends_taken t (RunEnd.Fault fault) is closes = (report, t, is)
  ends_taken t (RunEnd.Endless names) is closes = absurd is
  ends_taken t (RunEnd.TooMany held given) is closes = absurd closes
  ends_taken t RunEnd.AllLost is closes = absurd is
  ends_taken t (RunEnd.NameClash clash given) is closes = absurd closes
  ends_taken t RunEnd.Memory is closes = absurd is

  -- or with one that was refused
  pub ends_stopped : (worker : ℕ) (order : Order) → ReportIs digest shelves sc b out kept logged worker order report → (e : RunEnd)
      → IsCame report.end (Came.Ends e) → (Closes (Came.Ends e) → ⊥) → StopsSo digest report.spawned.items b.table (Came.Ends e)
      → c.journal ≡ b.journal → then ≡ out → EndsWith digest shelves sc b out kept logged e c then keeps
  ends_stopped worker order r (RunEnd.Answer text) is lasts stops journal listed = absurd (lasts tt)
  ends_stopped worker order r (RunEnd.Fault fault) is lasts stops journal listed = absurd (lasts tt)
  ends_stopped worker order r (RunEnd.Endless names) is lasts stops journal listed = absurd is
  ends_stopped worker order r (RunEnd.TooMany held given) is lasts stops journal listed =
      record { worker = worker; order = order; report = report; is = r; stops = stops; journal = journal; listed = listed }
  ends_stopped worker order r RunEnd.AllLost is lasts stops journal listed = absurd is
  ends_stopped worker order r (RunEnd.NameClash clash given) is lasts stops journal listed =
      record { worker = worker; order = order; report = report; is = r; stops = stops; journal = journal; listed = listed }
  ends_stopped worker order r RunEnd.Memory is lasts stops journal listed = absurd is

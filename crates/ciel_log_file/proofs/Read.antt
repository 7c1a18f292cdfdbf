-- What one record comes to, by its kind.
use Rattle.std.proofs.Common.{◌≡◌, ◌⊎◌, ℕ, List, None, Some, Option, Bool, true, false, is_some, ap, inl, inr, length, map, refl, subst, sym, ◌∙◌}
use Rattle.std.proofs.lemmas.List.{length-map}
use Rattle.sky_base.specs.Tree.{Script}
use Rattle.sky_base.specs.declared.object.TaskId.{TaskId}
use Rattle.ciel_journal.specs.Entries.{Entry}
use Rattle.ciel_log_file.specs.Refused.{RefusedBehind, RefusedNow, no_drop, no_report, no_start}
use Rattle.ciel_log_file.specs.Sending.{Placed}
use Rattle.ciel_log_file.specs.Replays.{At, EndsBy, EndsSo, LosesDue, TakesBehind, TakesRecord, drops, passes, reports, starts}
use Rattle.ciel_log_file.proofs.Lists.{set_long}
use Rattle.ciel_log_read.specs.Recorded.{IsRecord, record_bytes}
use Rattle.ciel_log_read.specs.View.{record_view}
use Rattle.ciel_log_read.specs.declared.record.LoggedReport.{LoggedReport}
use Rattle.ciel_log_read.specs.declared.record.Record.{Record}
use Rattle.ciel_log_replay.specs.Steps.{HasStarted, IsNextStart, LostBy, while_out}
use Rattle.ciel_log_replay.proofs.LostLemmas.{left_by}
use Rattle.ciel_log_report.specs.Comes.{EndsWith, GoesOn, IsLess, NotRefused, ReportTaken}
use Rattle.ciel_log_report.specs.Tests.{ReportRefused}
use Rattle.ciel_log_report.specs.declared.take.Came.{Came}
use Rattle.ciel_master.specs.Taking.{now_of}
use Rattle.ciel_master.specs.declared.stop.Now.{Now}
use Rattle.ciel_master.specs.declared.stop.RunEnd.{RunEnd}
use Rattle.ciel_master_board.specs.Board.{Board, find_order}
use Rattle.ciel_master_board.specs.Driving.{Quiet}
use Rattle.ciel_store.specs.Seen.{ShelvesSeen}
use Rattle.ciel_task_order.specs.Views.{P}
use Rattle.ciel_task_order.specs.declared.order.Order.{Order}
use Rattle.ciel_task_order.specs.declared.report.Report.{Report}

pub less_long : (out then : List (Option Order)) → IsLess out then → length then ≡ length out
less_long out then (inl e) = ap length e
less_long out then (inr q) = ap length q.1 ∙ set_long out q.0 None

pub started_long : (b c : Board P) (out then : List (Option Order)) (task : TaskId) (worker : ℕ) → HasStarted b c out then task worker
    → length then ≡ length out
started_long b c out then task worker s = ap length s.listed ∙ set_long out worker (Some s.order)

-- the run goes on, and the record isn't refused
pub goes_of : (came : Came) → (came ≡ Came.Passed) ⊎ (came ≡ Came.Taken) → GoesOn came × NotRefused came
goes_of came (inl e) = subst (λ z. GoesOn z × NotRefused z) (sym e) (tt, tt)
goes_of came (inr e) = subst (λ z. GoesOn z × NotRefused z) (sym e) (tt, tt)

pub lost_long : (c : Board P) (out then : List (Option Order)) → then ≡ map (while_out c) out → length then ≡ length out
lost_long c out then e = ap length e ∙ length-map out (while_out c)

pub lost_plan : (b c : Board P) (lost : (es : List Entry) × LostBy b es c) → c.plan ≡ b.plan
lost_plan b c lost = (left_by lost.1).plan

module _ (digest : List ℕ → List ℕ) (shelves : ShelvesSeen) (sc : Script) where
  -- ---- with no loss due

  module _ (b c : At) (r : Record) (data_of : IsRecord (record_view r)) where
    -- a Start
    pub start_taken : (number worker from : ℕ) (task : TaskId) → r ≡ Record.Start number worker from task → IsNextStart b.board number worker from task
        → HasStarted b.board c.board b.out c.out task worker → c.kept ≡ b.kept → TakesRecord digest shelves sc b (record_bytes (record_view r)) c
    start_taken number worker from task is next started kept =
        starts number worker from task (subst (λ z. IsRecord (record_view z)) is data_of) (ap (λ z. record_bytes (record_view z)) (sym is)) next
        started kept

    -- a report
    module _ (logged : LoggedReport) (is : r ≡ Record.Report logged) where
      data_is : IsRecord (record_view (Record.Report logged))
      data_is = subst (λ z. IsRecord (record_view z)) is data_of

      bytes_is : record_bytes (record_view (Record.Report logged)) ≡ record_bytes (record_view r)
      bytes_is = ap (λ z. record_bytes (record_view z)) (sym is)

      pub report_comes : (came : Came) → GoesOn came → (came ≡ Came.Passed → find_order logged.number b.board.orders ≡ None)
          → (came ≡ Came.Passed → c ≡ b)
          → (came ≡ Came.Taken → (report : Report) × ReportTaken digest shelves sc b.board b.out b.kept logged c.board c.out c.kept report
          × (now_of report.end ≡ Now.Goes))
          → TakesRecord digest shelves sc b (record_bytes (record_view r)) c
      report_comes Came.Passed goes none same taken =
          subst (TakesRecord digest shelves sc b (record_bytes (record_view r))) (sym (same refl)) (passes logged data_is bytes_is (none refl))
      report_comes Came.Taken goes none same taken = let t = taken refl in reports logged data_is bytes_is t.0 t.2 t.1
      report_comes (Came.Ends e) goes none same taken = absurd goes
      report_comes Came.Refused goes none same taken = absurd goes

      pub report_ends : (e : RunEnd) → EndsWith digest shelves sc b.board b.out b.kept logged e c.board c.out c.kept
          → EndsSo digest shelves sc b (record_bytes (record_view r)) e c
      report_ends e ends = record { logged = logged; data_of = data_is; bytes_of = bytes_is; ends = ends }

  -- a report that was dropped
  pub drop_passes : (b : At) (r : Record) → IsRecord (record_view r) → (number : ℕ) → r ≡ Record.Dropped number
      → find_order number b.board.orders ≡ None → TakesRecord digest shelves sc b (record_bytes (record_view r)) b
  drop_passes b r data_of number is none =
      drops number (subst (λ z. IsRecord (record_view z)) is data_of) (ap (λ z. record_bytes (record_view z)) (sym is)) none

  -- ---- behind the losses that are due

  module _ (a b c : At) (bytes read : List ℕ) (same : read ≡ bytes) (lost : (es : List Entry) × LostBy a.board es b.board) (quiet : Quiet b.board)
      (listed : b.out ≡ map (while_out b.board) a.out) (kept : b.kept ≡ a.kept) where
    due : LosesDue a b
    due = record { entries = lost.0; lost = lost.1; quiet = quiet; listed = listed; kept = kept }

    pub takes_behind : TakesRecord digest shelves sc b read c → TakesBehind digest shelves sc a bytes c
    takes_behind t = (b, due, subst (λ z. TakesRecord digest shelves sc b z c) same t)

    pub ends_behind : (e : RunEnd) → EndsSo digest shelves sc b read e c → EndsBy digest shelves sc a bytes e c
    ends_behind e t = (b, due, subst (λ z. EndsSo digest shelves sc b z e c) same t)

  -- ---- a record that is refused

  module _ (b : At) (r : Record) (data_of : IsRecord (record_view r)) where
    pub start_refused : (number worker from : ℕ) (task : TaskId) → r ≡ Record.Start number worker from task
        → (IsNextStart b.board number worker from task → ⊥) → RefusedNow digest sc b (record_bytes (record_view r))
    start_refused number worker from task is fails =
        no_start number worker from task (subst (λ z. IsRecord (record_view z)) is data_of) (ap (λ z. record_bytes (record_view z)) (sym is)) fails

    pub report_refused : (logged : LoggedReport) → r ≡ Record.Report logged → ReportRefused digest sc b.board b.out b.kept logged
        → RefusedNow digest sc b (record_bytes (record_view r))
    report_refused logged is fails =
        no_report logged (subst (λ z. IsRecord (record_view z)) is data_of) (ap (λ z. record_bytes (record_view z)) (sym is)) fails

    pub drop_refused : (number : ℕ) → r ≡ Record.Dropped number → {t : Bool} → t ≡ is_some (find_order number b.board.orders) → t ≡ true
        → RefusedNow digest sc b (record_bytes (record_view r))
    drop_refused number is out there =
        no_drop number (subst (λ z. IsRecord (record_view z)) is data_of) (ap (λ z. record_bytes (record_view z)) (sym is))
        (λ none. let bad : true ≡ false = sym there ∙ (out ∙ ap (λ o. is_some o) none) in cc)

  module _ (a b : At) (bytes read : List ℕ) (same : read ≡ bytes) (lost : (es : List Entry) × LostBy a.board es b.board) (quiet : Quiet b.board)
      (listed : b.out ≡ map (while_out b.board) a.out) (kept : b.kept ≡ a.kept) (placed : Placed b.out) where
    pub refused_behind : RefusedNow digest sc b read → RefusedBehind digest sc a bytes
    refused_behind fails =
        record {
          then = b;
          losses = record { entries = lost.0; lost = lost.1; quiet = quiet; listed = listed; kept = kept };
          placed = placed;
          refused = subst (RefusedNow digest sc b) same fails;
        }

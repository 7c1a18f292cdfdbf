-- What comes of a report's record.
use Rattle.std.specs.Prelude.{◌≡◌, ◌⊎◌, ℕ, List, Option, Some, None, slice_set}
use Rattle.std.specs.BTreeMap.{BTreeMap}
use Rattle.sky_base.specs.Tree.{Script}
use Rattle.sky_base.specs.declared.object.Object.{Object}
use Rattle.sky_state.specs.declared.shown.Shown.{Shown}
use Rattle.ciel_journal.specs.Job.{Digest}
use Rattle.ciel_log_objects.specs.Objects.{KeepsEach}
use Rattle.ciel_log_read.specs.declared.record.LoggedEnd.{LoggedEnd}
use Rattle.ciel_log_read.specs.declared.record.LoggedReport.{LoggedReport}
use Rattle.ciel_log_report.specs.Ends.{IsReportOf}
use Rattle.ciel_log_report.specs.declared.take.Came.{Came}
use Rattle.ciel_master.specs.Refusals.{FirstStops}
use Rattle.ciel_master.specs.declared.stop.RunEnd.{RunEnd}
use Rattle.ciel_master.specs.declared.stop.Stop.{Stop}
use Rattle.ciel_master_board.specs.Board.{Board}
use Rattle.ciel_master_board.specs.Driving.{RestsNow}
use Rattle.ciel_master_board.specs.Moves.{accepted}
use Rattle.ciel_master_law.specs.Ends.{worker_of}
use Rattle.ciel_master_safe.specs.Reports.{outputs_of}
use Rattle.ciel_store.specs.Seen.{ShelvesSeen}
use Rattle.ciel_task_crew.specs.Crews.{order_at}
use Rattle.ciel_task_order.specs.Views.{P, out_view, report_end}
use Rattle.ciel_task_order.specs.declared.order.Order.{Order}
use Rattle.ciel_task_order.specs.declared.report.End.{End}
use Rattle.ciel_task_order.specs.declared.report.Report.{Report}

-- the run goes on
abbrev pub GoesOn : Came → Type 0
GoesOn Came.Passed = Unit {0}
GoesOn Came.Taken = Unit {0}
GoesOn _ = ⊥

-- it isn't refused
abbrev pub NotRefused : Came → Type 0
NotRefused Came.Refused = ⊥
NotRefused _ = Unit {0}

-- the list is the same, or one worker has none any more
abbrev pub IsLess : List (Option Order) → List (Option Order) → Type 0
IsLess before after = (after ≡ before) ⊎ ((w : ℕ) × (after ≡ slice_set before w None))

-- the objects of the outputs are kept besides, where the task came to its end
abbrev pub KeepsOutputs : (List ℕ → List ℕ) → Order → LoggedEnd → BTreeMap Digest Object → BTreeMap Digest Object → Type 0
KeepsOutputs digest order (LoggedEnd.Made objects) before after = KeepsEach (outputs_of digest order.desc) objects.items before after
KeepsOutputs digest order end before after = after ≡ before

-- ---- a report that may come, of an order of the list

module _ (digest : List ℕ → List ℕ) (shelves : ShelvesSeen) (sc : Script) (b : Board P) (out : List (Option Order)) (kept : BTreeMap Digest Object)
    (logged : LoggedReport) where
  -- the record tells this report of the order of a worker, which it fits
  pub record ReportIs (worker : ℕ) (order : Order) (report : Report) : Type 0 where
    pub rests : RestsNow b
    pub there : order_at out worker ≡ Some order
    pub number : order.number ≡ logged.number
    pub is : IsReportOf digest shelves sc b kept order logged report

  -- it was taken, and its order is out no longer
  pub record ReportTaken (c : Board P) (then : List (Option Order)) (keeps : BTreeMap Digest Object) (report : Report) : Type 0 where
    pub worker : ℕ
    pub order : Order
    pub is : ReportIs worker order report
    pub board : c ≡ accepted digest worker_of b (out_view order) report.spawned.items (report_end report)
    pub listed : then ≡ slice_set out worker None
    pub keeping : KeepsOutputs digest order logged.end kept keeps

  -- it was refused so, and what is out is so still
  pub record ReportStops (c : Board P) (then : List (Option Order)) (why : Stop) : Type 0 where
    pub worker : ℕ
    pub order : Order
    pub report : Report
    pub is : ReportIs worker order report
    pub stops : FirstStops digest report.spawned.items b.table why
    pub journal : c.journal ≡ b.journal
    pub listed : then ≡ out

  -- the run ended so with it
  abbrev pub EndsWith : RunEnd → Board P → List (Option Order) → BTreeMap Digest Object → Type 0
  EndsWith (RunEnd.Answer text) c then keeps = (report : Report) × ReportTaken c then keeps report × (report.end ≡ End.Shown (Shown.Text text))
  EndsWith (RunEnd.Fault fault) c then keeps = (report : Report) × ReportTaken c then keeps report × (report.end ≡ End.Shown (Shown.Fault fault))
  EndsWith (RunEnd.NameClash clash given) c then keeps = ReportStops c then (Stop.NameClash clash given)
  EndsWith (RunEnd.TooMany held given) c then keeps = ReportStops c then (Stop.TooMany held given)
  EndsWith _ c then keeps = ⊥

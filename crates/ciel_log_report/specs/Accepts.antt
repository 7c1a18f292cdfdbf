-- What comes of a report that is handed to the master.
use Rattle.std.specs.Prelude.{◌≡◌, ℕ, List}
use Rattle.sky_base.specs.declared.object.Named.{Named}
use Rattle.sky_state.specs.declared.shown.Shown.{Shown}
use Rattle.ciel_log_report.specs.declared.take.Came.{Came}
use Rattle.ciel_master.specs.Refusals.{FirstStops}
use Rattle.ciel_master.specs.Taking.{now_of}
use Rattle.ciel_master.specs.declared.stop.Now.{Now}
use Rattle.ciel_master.specs.declared.stop.RunEnd.{RunEnd}
use Rattle.ciel_master.specs.declared.stop.Stop.{Stop}
use Rattle.ciel_table.specs.Seen.{TableSeen}
use Rattle.ciel_task_order.specs.Views.{P}
use Rattle.ciel_task_order.specs.declared.report.End.{End}

-- it was taken
abbrev pub Closes : Came → Type 0
Closes Came.Taken = Unit {0}
Closes (Came.Ends (RunEnd.Answer text)) = Unit {0}
Closes (Came.Ends (RunEnd.Fault fault)) = Unit {0}
Closes _ = ⊥

-- by the report's end; or it wasn't learned whole
abbrev pub IsCame : End → Came → Type 0
IsCame end Came.Taken = now_of end ≡ Now.Goes
IsCame end (Came.Ends (RunEnd.Answer text)) = end ≡ End.Shown (Shown.Text text)
IsCame end (Came.Ends (RunEnd.Fault fault)) = end ≡ End.Shown (Shown.Fault fault)
IsCame end (Came.Ends (RunEnd.NameClash kept given)) = Unit {0}
IsCame end (Came.Ends (RunEnd.TooMany held given)) = Unit {0}
IsCame end _ = ⊥

-- then this is why
abbrev pub StopsSo : (List ℕ → List ℕ) → List Named → TableSeen P → Came → Type 0
StopsSo digest ns t (Came.Ends (RunEnd.NameClash kept given)) = FirstStops digest ns t (Stop.NameClash kept given)
StopsSo digest ns t (Came.Ends (RunEnd.TooMany held given)) = FirstStops digest ns t (Stop.TooMany held given)
StopsSo digest ns t _ = Unit {0}

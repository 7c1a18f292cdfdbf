-- What a worker promises of the report of an order, whatever was reported before.
use Rattle.std.specs.Prelude.{◌≡◌, ℕ, List, map}
use Rattle.sky_base.specs.Tree.{Script}
use Rattle.sky_base_law.specs.Sound.{SoundDesc}
use Rattle.sky_base_law.specs.Tasks.{Each}
use Rattle.ciel_master_board.specs.Board.{Board, task_desc}
use Rattle.ciel_master_board.specs.Reports.{named_view}
use Rattle.ciel_store.specs.Seen.{ShelvesSeen}
use Rattle.ciel_task_order.specs.Performs.{HasRows, IsMissing}
use Rattle.ciel_task_order.specs.Views.{P, out_view, report_end}
use Rattle.ciel_task_order.specs.declared.order.Order.{Order}
use Rattle.ciel_task_order.specs.declared.report.Report.{Report}
use Rattle.ciel_master_safe.specs.Reports.{ReportSafe}

-- what it spawned is sound for the script; and it is safe in each state that has the script's keys, and whose table has the order's task and rows for the order, where nothing was missing
abbrev pub PerformsSafely : (List ℕ → List ℕ) → ShelvesSeen → Script → Order → Report → Type 0
PerformsSafely digest shelves sc order r =
    Each (SoundDesc sc) (map named_view r.spawned.items)
    × ((b : Board P) → b.keys ≡ sc.keys → HasRows digest b.table order → order.desc ≡ task_desc b.main b.table order.task
    → (IsMissing r.end → ⊥) → ReportSafe digest shelves sc b (out_view order) r.spawned.items (report_end r))

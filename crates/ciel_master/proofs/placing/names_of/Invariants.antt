use Rattle.std.proofs.Common.{◌≡◌, ◌++◌, drop}
use Rattle.ciel_master_board.specs.Reports.{copy_names}
use Rattle.ciel_task_order.specs.Views.{copies_view}
use Rattle.ciel_master.proofs.placing.names_of.Given as goal

abbrev pub invariant-loop-i : goal.invariant-loop-i
invariant-loop-i l = l.names ++ copy_names (copies_view (drop l.i l.copied)) ≡ copy_names (copies_view l.copied)

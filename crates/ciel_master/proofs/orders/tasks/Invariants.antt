use Rattle.std.proofs.Common.{◌≡◌, ◌++◌, drop, map}
use Rattle.ciel_master_board.specs.Board.{tasks_out}
use Rattle.ciel_master.specs.Views.{kept_view}
use Rattle.ciel_master.proofs.orders.tasks.Given as goal

abbrev pub invariant-loop-i : goal.invariant-loop-i
invariant-loop-i l = l.tasks.items ++ tasks_out (map kept_view (drop l.i l.orders)) ≡ tasks_out (map kept_view l.orders)

use Rattle.std.proofs.Common.{◌≡◌, ◌++◌, drop, map}
use Rattle.ciel_master_board.specs.Board.{brought}
use Rattle.ciel_master_bring.specs.Brings.{worker_of}
use Rattle.ciel_task_order.specs.Views.{brought_view}
use Rattle.ciel_master_bring.proofs.bring.brought.Given as goal

abbrev pub invariant-loop-i : goal.invariant-loop-i
invariant-loop-i l =
    map brought_view l.inputs.items ++ brought worker_of l.keys l.worker l.table (drop l.i l.names)
    ≡ brought worker_of l.keys l.worker l.table l.names

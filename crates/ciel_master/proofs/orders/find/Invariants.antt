use Rattle.std.proofs.Common.{◌≡◌, ◌≤◌, length, drop, map}
use Rattle.std.specs.Option.{option_map}
use Rattle.ciel_master_board.specs.Board.{find_order}
use Rattle.ciel_master.specs.Views.{kept_view}
use Rattle.ciel_master.proofs.orders.find.Given as goal

abbrev pub invariant-loop-i : goal.invariant-loop-i
invariant-loop-i l =
    record { within : l.i ≤ length l.orders; best : option_map kept_view l.best ≡ find_order l.number (map kept_view (drop l.i l.orders)) }

abbrev pub decreases-loop-i : goal.decreases-loop-i
decreases-loop-i l = l.i

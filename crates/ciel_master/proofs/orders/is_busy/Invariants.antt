use Rattle.std.proofs.Common.{◌≡◌, ◌≤◌, length, drop, map, nat_eq}
use Rattle.std.specs.List.{list_any}
use Rattle.ciel_master_board.specs.Board.{workers_out}
use Rattle.ciel_master.specs.Views.{kept_view}
use Rattle.ciel_master.proofs.orders.is_busy.Given as goal

abbrev pub invariant-loop-i : goal.invariant-loop-i
invariant-loop-i l =
    record { within : l.i ≤ length l.orders; busy : l.busy ≡ list_any (nat_eq l.worker) (workers_out (map kept_view (drop l.i l.orders))) }

abbrev pub decreases-loop-i : goal.decreases-loop-i
decreases-loop-i l = l.i

use Rattle.std.proofs.Common.{◌≡◌, ◌≤◌, length, drop, map}
use Rattle.std.specs.Option.{option_map}
use Rattle.ciel_master.specs.Orders.{worker_order}
use Rattle.ciel_master.specs.Views.{kept_view}
use Rattle.ciel_master.proofs.orders.find_at.Given as goal

abbrev pub invariant-loop-i : goal.invariant-loop-i
invariant-loop-i l =
    record { within : l.i ≤ length l.orders; best : option_map kept_view l.best ≡ worker_order l.worker (map kept_view (drop l.i l.orders)) }

abbrev pub decreases-loop-i : goal.decreases-loop-i
decreases-loop-i l = l.i

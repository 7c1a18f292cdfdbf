use Rattle.std.proofs.Common.{◌≡◌, ◌≤◌, length, drop, nat_eq}
use Rattle.std.specs.List.{list_any}
use Rattle.ciel_master.proofs.orders.has.Given as goal

abbrev pub invariant-loop-i : goal.invariant-loop-i
invariant-loop-i l =
    record { within : l.i ≤ length l.workers; found : l.found ≡ list_any (nat_eq l.worker) (drop l.i l.workers) }

abbrev pub decreases-loop-i : goal.decreases-loop-i
decreases-loop-i l = l.i

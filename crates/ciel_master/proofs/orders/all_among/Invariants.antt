use Rattle.std.proofs.Common.{◌≡◌, ◌<◌, ◌-◌, ℕ, true, nat_eq}
use Rattle.std.specs.List.{list_any}
use Rattle.ciel_master.proofs.orders.all_among.Given as goal

abbrev pub invariant-loop-i : goal.invariant-loop-i
invariant-loop-i l = (worker : ℕ) → worker < l.i → list_any (nat_eq worker) l.lost ≡ true

abbrev pub decreases-loop-i : goal.decreases-loop-i
decreases-loop-i l = l.workers - l.i

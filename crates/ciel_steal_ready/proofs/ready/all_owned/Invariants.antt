use Rattle.std.proofs.Common.{◌≡◌, length}
use Rattle.ciel_steal_ready.proofs.ready.all_owned.Given as goal

abbrev pub invariant-loop : goal.invariant-loop
invariant-loop g l = length l.all.items ≡ l.counter

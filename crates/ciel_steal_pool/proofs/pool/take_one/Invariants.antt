use Rattle.std.proofs.Common.{◌≡◌}
use Rattle.ciel_steal_pool.proofs.pool.take_one.Given as goal

abbrev pub invariant-loop : goal.invariant-loop
invariant-loop g l = l.places.items ≡ l.fn.places.items

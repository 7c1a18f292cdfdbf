use Rattle.std.proofs.Common.{◌≡◌, [], length, None}
use Rattle.std.specs.Prelude.{All}
use Rattle.ciel_steal_pool.proofs.pool.sides_of.Given as goal

abbrev pub invariant-loop : goal.invariant-loop
invariant-loop g l = (length l.places.items ≡ l.counter) × All (λ x. x ≡ record { put = []; out = None }) l.places.items

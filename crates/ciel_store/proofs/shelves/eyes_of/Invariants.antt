use Rattle.std.proofs.Common.{◌≡◌, [], length}
use Rattle.std.specs.Prelude.{All}
use Rattle.ciel_store.proofs.shelves.eyes_of.Given as goal

abbrev pub invariant-loop : goal.invariant-loop
invariant-loop g l = (l.marker ≡ l.fn.marker) × (length l.eyes.items ≡ l.counter) × All (λ e. (e.of ≡ l.shelves.of) × (e.losses ≡ [])) l.eyes.items

use Rattle.std.proofs.Common.{◌≡◌, length}
use Rattle.ciel_store.proofs.shelves.rows_of.Given as goal

abbrev pub invariant-loop : goal.invariant-loop
invariant-loop g l = (length l.rows.items ≡ l.counter)

use Rattle.std.proofs.Common.{◌≡◌, ◌++◌, [], length}
use Rattle.std.specs.Prelude.{All}
use Rattle.ciel_steal_ready.proofs.ready.seats_of.Given as goal

abbrev pub invariant-loop-owned : goal.invariant-loop-owned
invariant-loop-owned g l =
    (l.yielded ++ l.owned-iterator.rest.items ≡ l.fn.all.items) × (length l.seats.items ≡ length l.yielded)
    × (length l.rows.rest.items ≡ length l.owned-iterator.rest.items) × All (λ s. s.taken ≡ []) l.seats.items

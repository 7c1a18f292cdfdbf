use Rattle.std.proofs.Common.{◌≡◌, ◌++◌, length}
use Rattle.ciel_steal_pool.proofs.pool.posts_of.Given as goal

abbrev pub invariant-loop-seat : goal.invariant-loop-seat
invariant-loop-seat g l =
    (l.yielded ++ l.seat-iterator.rest.items ≡ l.fn.seats.items) × (length l.posts.items ≡ length l.yielded)
    × (length l.ears.rest.items ≡ length l.seat-iterator.rest.items)

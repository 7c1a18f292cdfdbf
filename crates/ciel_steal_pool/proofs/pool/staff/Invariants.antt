use Rattle.std.proofs.Common.{◌≡◌, ◌+◌, ◌≤◌, length, vec_capacity}
use Rattle.ciel_steal_pool.proofs.pool.staff.Given as goal

abbrev pub invariant-loop-post : goal.invariant-loop-post
invariant-loop-post g l = (length l.threads.items + length l.post-iterator.rest.items ≤ vec_capacity l.threads)

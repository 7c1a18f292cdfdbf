use Rattle.std.proofs.Common.{◌≡◌, ◌≤◌, ◌<◌, ◌^◌, ℕ, length, take, vec_capacity}
use Rattle.ciel_crew_lanes.specs.Seen.{Closes, lane_at}
use Rattle.ciel_steal_pool.proofs.pool.Pool.close.Given as goal

abbrev pub invariant-loop-at : goal.invariant-loop-at
invariant-loop-at g l =
    (length l.places.items ≡ length l.fn.self) × ((k : ℕ) → l.at ≤ k → lane_at l.places.items k ≡ lane_at l.fn.self k)
    × (length l.done.items ≤ l.at) × (length l.fn.self ≤ vec_capacity l.done) × (length l.fn.self < 2 ^ 32) × Closes g.W.Work.fits 0 (take l.at l.fn.self) l.done.items × (l.at ≤ length l.fn.self)

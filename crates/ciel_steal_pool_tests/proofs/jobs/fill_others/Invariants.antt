use Rattle.std.proofs.Common.{◌≡◌, ◌≤◌, ℕ, length, None}
use Rattle.ciel_crew_lanes.specs.Seen.{lane_at}
use Rattle.ciel_steal_pool_tests.proofs.jobs.fill_others.Given as goal

-- the first worker has no job, and those that come have none
abbrev pub invariant-loop-worker : goal.invariant-loop-worker
invariant-loop-worker g l =
    (length l.pool ≡ l.fn.workers) × ((lane_at l.pool 0).out ≡ None) × ((k : ℕ) → l.worker ≤ k → (lane_at l.pool k).out ≡ None) × (1 ≤ l.worker)

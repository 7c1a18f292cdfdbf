use Rattle.std.proofs.Common.{◌≡◌, ◌≤◌, ◌++◌, ◌^◌, ◌<◌, length, vec_capacity}
use Rattle.ciel_crew_lanes.specs.Seen.{Closes}
use Rattle.ciel_crew_lanes.proofs.lanes.Lanes.close.Given as goal

abbrev pub invariant-loop-lane : goal.invariant-loop-lane
invariant-loop-lane g l = (l.yielded ++ l.lane-iterator.rest.items ≡ l.fn.self) × (l.at ≡ length l.yielded) × (length l.done.items ≤ l.at)
    × (length l.fn.self ≤ vec_capacity l.done) × (length l.fn.self < 2 ^ 32) × Closes g.W.Work.fits 0 l.yielded l.done.items

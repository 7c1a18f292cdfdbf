use Rattle.std.proofs.Common.{◌≡◌}
use Rattle.ciel_crew_lanes.proofs.lanes.last_of.Given as goal

abbrev pub invariant-loop : goal.invariant-loop
invariant-loop g l = l.lane ≡ l.fn.lane

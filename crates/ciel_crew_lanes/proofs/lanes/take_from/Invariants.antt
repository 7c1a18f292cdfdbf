use Rattle.std.proofs.Common.{◌≡◌}
use Rattle.ciel_crew_lanes.proofs.lanes.take_from.Given as goal

abbrev pub invariant-loop : goal.invariant-loop
invariant-loop g l = l.lanes.items ≡ l.fn.lanes.items

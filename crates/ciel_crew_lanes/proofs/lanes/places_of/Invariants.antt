use Rattle.std.proofs.Common.{◌≡◌, length}
use Rattle.ciel_crew_lanes.proofs.lanes.places_of.Given as goal

abbrev pub invariant-loop-lane : goal.invariant-loop-lane
invariant-loop-lane g l = length l.all.items ≡ l.lane

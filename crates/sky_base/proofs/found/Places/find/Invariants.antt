use Rattle.sky_base.proofs.Placed.{Walks}
use Rattle.sky_base.proofs.found.Places.find.Given as goal

abbrev pub invariant-loop-from : goal.invariant-loop-from
invariant-loop-from l = Walks l.self.turn l.self.latest.items l.names l.name l.from

abbrev pub decreases-loop-from : goal.decreases-loop-from
decreases-loop-from l = l.from

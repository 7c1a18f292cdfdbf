use Rattle.ciel_steal_ready.proofs.Tallying.{after}
use Rattle.ciel_steal_ready.proofs.ready.Seat.take.Goals as goal

pub find-requires-clause-takes : goal.find-requires-clause-takes
find-requires-clause-takes g c = g.met.P.Keeps.takes

pub find-requires-clause-finds : goal.find-requires-clause-finds
find-requires-clause-finds g c = g.met.P.Keeps.finds

pub find-requires-clause-pushes : goal.find-requires-clause-pushes
find-requires-clause-pushes g c = g.met.P.Keeps.pushes

pub find-requires-clause-admits : goal.find-requires-clause-admits
find-requires-clause-admits g c = g.met.P.Keeps.admits

pub invariant_of-self-2 : goal.invariant_of-self-2
invariant_of-self-2 g c =
    after c.in_ok-job.job c.self.inside.ends c.find.new.self c.self.inside.log c.add.new.self c.add.ensures c.in_ok-job.ensures.found
    c.self.invariant

use Rattle.ciel_crew_rounds.proofs.SeatSteps.{each_on}
use Rattle.ciel_crew_rounds.proofs.round.play.Goals as goal

pub returns-clause-goes : goal.returns-clause-goes
returns-clause-goes g c =
    each_on g.K.Kit.gives g.N.Namer.digest g.G.Gate.entered c.args.seats.now.items c.put_all.new.seats.items c.take_all.new.seats.items
    c.put_all.ensures.goes c.take_all.ensures.goes

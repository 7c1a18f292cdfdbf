use Rattle.ciel_crew_rounds.proofs.SeatSteps.{some_kept}
use Rattle.ciel_crew_rounds.proofs.round.kept_after.Goals as goal

pub unreachable-requires : goal.unreachable-requires
unreachable-requires g c =
    some_kept g.K.Kit.gives g.N.Namer.digest g.G.Gate.entered c.args.seats.now.items c.play.new.seats.items c.as_slice-2.result.now c.requires.out
    c.play.ensures.goes c.play.ensures.home c.as_slice-2.ensures.value c.in-None.ensures

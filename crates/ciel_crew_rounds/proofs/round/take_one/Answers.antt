use Rattle.std.proofs.Common.{None, refl, sym, ◌∙◌}
use Rattle.ciel_crew_rounds.specs.Seats.{away_of}
use Rattle.ciel_crew_rounds.proofs.SeatSteps.{goes_same, not_away, out_set, out_stays}
use Rattle.ciel_crew_rounds.proofs.round.take_one.Goals as goal

pub returns-in-Away-clause-outs : goal.returns-in-Away-clause-outs
returns-in-Away-clause-outs g c = out_set c.args.lanes.now c.take_at.new.self c.args.worker _ None None c.take_at.ensures.taken.4 refl

pub returns-in_default : goal.returns-in_default
returns-in_default g c =
    let none = not_away c.args.seat.now c.in_default.not-Away in
    record {
      goes = goes_same g.K.Kit.gives g.N.Namer.digest g.G.Gate.entered c.args.seat.now;
      none = c.requires.none;
      home = none;
      outs = out_stays c.args.lanes.now c.args.worker None (c.requires.out ∙ none);
    }

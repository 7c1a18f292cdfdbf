use Rattle.std.proofs.Common.{Some, ap, sym, ◌∙◌}
use Rattle.ciel_crew_rounds.specs.Seats.{away_of, sent_of}
use Rattle.ciel_crew_rounds.proofs.SeatSteps.{goes_same, not_sent, out_set, out_stays}
use Rattle.ciel_crew_rounds.proofs.round.put_one.Goals as goal

pub returns-in-Some-clause-outs : goal.returns-in-Some-clause-outs
returns-in-Some-clause-outs g c =
    out_set c.args.lanes.now c.put.new.self c.args.worker _ (Some c.in-Some.job) (away_of c.replace.new.dest) c.put.ensures.put
    (sym c.in-Some.is ∙ (c.into_sent.ensures ∙ (ap sent_of (c.replace.ensures.value ∙ c.in-Sent.is)
    ∙ (sym (ap Some c.of-away.ensures) ∙ sym (ap away_of c.replace.ensures.after)))))

pub returns-in_default : goal.returns-in_default
returns-in_default g c = record {
  goes = goes_same g.K.Kit.gives g.N.Namer.digest g.G.Gate.entered c.args.seat.now;
  none = not_sent c.args.seat.now c.in_default.not-Sent;
  outs = out_stays c.args.lanes.now c.args.worker (away_of c.args.seat.now) c.requires.out;
}

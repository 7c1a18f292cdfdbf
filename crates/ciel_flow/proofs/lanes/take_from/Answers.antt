use Rattle.std.proofs.Common.{ap, arith, length}
use Rattle.ciel_flow.proofs.LaneSteps.{crew_long, match_none}
use Rattle.ciel_flow.proofs.lanes.take_from.Goals as goal

pub index-requires : goal.index-requires
index-requires g c = omega (arith, c.requires.agree.many, c.requires.lane)

pub index_mut-requires : goal.index_mut-requires
index_mut-requires g c =
    omega (arith, c.settle.ensures.agree.many, c.requires.lane, ap length c.settle.ensures.same, crew_long c.args.lanes.now, crew_long c.settle.new.lanes)

pub returns-clause-agree : goal.returns-clause-agree
returns-clause-agree g c =
    match_none g.N.Namer.digest c.args.shop.now c.settle.new.lanes c.settle.new.streams.items c.args.lane c.take-kept.new.self
    (omega (arith, c.requires.lane, ap length c.settle.ensures.same, crew_long c.args.lanes.now, crew_long c.settle.new.lanes))
    c.settle.ensures.agree c.settle.ensures.none c.take-kept.ensures.after

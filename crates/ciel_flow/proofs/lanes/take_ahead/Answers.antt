use Rattle.std.proofs.Common.{ap, arith, length, ◌∙◌}
use Rattle.ciel_flow.proofs.LaneSteps.{crew_long}
use Rattle.ciel_flow.proofs.lanes.take_ahead.Goals as goal

pub take_from-left-requires-clause-lane : goal.take_from-left-requires-clause-lane
take_from-left-requires-clause-lane g c =
    let i = c.loop-at.invariant in
    omega (arith, i.agree.many, i.many, c.loop-at-test.true)

pub loop-at-preserved : goal.loop-at-preserved
loop-at-preserved g c =
    let i = c.loop-at.invariant in
    let t = c.take_from-left.ensures in
    let lanes : _ = ap length t.same in
    let a = crew_long c.loop-at.lanes in
    let b = crew_long c.take_from-left.new.lanes in
    record {
      many = omega (arith, t.agree.many, i.agree.many, i.many, lanes, a, b);
      lanes = omega (arith, i.lanes, lanes, a, b);
      agree = t.agree;
      same = t.same ∙ i.same;
      still = λ k none. t.still k (i.still k none);
    }

use Rattle.std.proofs.Common.{ap, arith, refl, set, subst, sym, ◌∙◌}
use Rattle.ciel_crew_lanes.specs.Seen.{HasTaken}
use Rattle.ciel_flow_work.specs.Crewed.{orders_of}
use Rattle.ciel_flow_work.specs.Crews.{IsOut}
use Rattle.ciel_flow_work.specs.Flowing.{FitsFlow, as_crew}
use Rattle.ciel_flow.specs.Streaming.{kept_left}
use Rattle.ciel_flow.proofs.LaneSteps.{crew_out, here, performed_as, performed_match, settled}
use Rattle.ciel_flow.proofs.lanes.take_done.Goals as goal

pub take-lane-requires : goal.take-lane-requires
take-lane-requires g c =
    record { out = crew_out c.loop.lanes (subst (λ x. IsOut (orders_of x)) (sym c.loop.invariant.same) c.requires.out) }

pub index_mut-requires : goal.index_mut-requires
index_mut-requires g c = let t = c.take-lane.ensures.taken in omega (arith, c.loop.invariant.agree.many, t.1)

pub loop-preserved : goal.loop-preserved
loop-preserved g c =
    let ls = c.loop.lanes in
    let ss = c.loop.streams.items in
    let w = c.take-lane.result.0 in
    let after = c.take-lane.new.self in
    let left = c.in-Followed.left in
    let t = c.take-lane.ensures.taken in
    let taken = subst (λ o. HasTaken (FitsFlow g.K.Kit.gives g.N.Namer.digest g.G.Gate.entered) ls w o after) c.in-Followed.is t in
    let kept = c.keep_left.ensures
    ∙ ap (λ o. kept_left o left) (here ss w c.index_mut.result.now (omega (arith, c.loop.invariant.agree.many, t.1)) c.index_mut.ensures.value) in
    let s = settled g.K.Kit.gives g.N.Namer.digest g.G.Gate.entered c.args.shop.now ls after ss (set ss w c.keep_left.new.stream) w left
    c.keep_left.new.stream c.loop.invariant.agree taken kept refl in
    record { agree = s.agree; same = s.same ∙ c.loop.invariant.same }

pub returns-in-Performed : goal.returns-in-Performed
returns-in-Performed g c =
    let ls = c.loop.lanes in
    let w = c.take-lane.result.0 in
    let after = c.take-lane.new.self in
    let d = c.in-Performed.performed in
    let taken = subst (λ o. HasTaken (FitsFlow g.K.Kit.gives g.N.Namer.digest g.G.Gate.entered) ls w o after) c.in-Performed.is
    c.take-lane.ensures.taken in
    record {
      agree = performed_match g.K.Kit.gives g.N.Namer.digest g.G.Gate.entered c.args.shop.now ls after c.loop.streams.items w d
          c.loop.invariant.agree taken;
      taken = performed_as g.K.Kit.gives g.N.Namer.digest g.G.Gate.entered ls after (as_crew c.args.lanes.now) w d c.loop.invariant.same taken;
    }

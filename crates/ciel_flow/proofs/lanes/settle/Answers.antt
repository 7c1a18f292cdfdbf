use Rattle.std.proofs.Common.{ap, arith, refl, set, subst, sym, ◌∙◌}
use Rattle.ciel_crew_lanes.specs.Seen.{HasTaken}
use Rattle.ciel_flow_work.specs.Flowing.{FitsFlow, follows}
use Rattle.ciel_flow.specs.Streaming.{kept_left}
use Rattle.ciel_flow.proofs.LaneSteps.{follows_here, follows_one, here, no_order, none_here, settled}
use Rattle.ciel_flow.proofs.lanes.settle.Goals as goal

pub index-requires : goal.index-requires
index-requires g c = omega (arith, c.requires.agree.many, c.requires.lane)

pub index_mut-requires : goal.index_mut-requires
index_mut-requires g c = omega (arith, c.requires.agree.many, c.requires.lane)

pub take_at-requires-clause-out : goal.take_at-requires-clause-out
take_at-requires-clause-out g c =
    follows_one _
    (follows_here g.N.Namer.digest c.args.shop.now c.args.lanes.now c.args.streams.now.items c.args.lane c.index.result.now
    c.is_following.result c.requires.agree c.requires.lane c.index.ensures c.is_following.ensures c.if-is_following.true)

-- all that is said where a lane had followed
pub returns-in-Followed : goal.returns-in-Followed
returns-in-Followed g c =
    let ls = c.args.lanes.now in
    let ss = c.args.streams.now.items in
    let w = c.args.lane in
    let after = c.take_at.new.self in
    let left = c.in-Followed.left in
    let taken = subst (λ o. HasTaken (FitsFlow g.K.Kit.gives g.N.Namer.digest g.G.Gate.entered) ls w o after) c.in-Followed.is c.take_at.ensures.taken in
    let found = c.index_mut.result.now in
    let kept = c.keep_left.ensures
    ∙ ap (λ o. kept_left o left) (here ss w found (omega (arith, c.requires.agree.many, c.requires.lane)) c.index_mut.ensures.value) in
    let s = settled g.K.Kit.gives g.N.Namer.digest g.G.Gate.entered c.args.shop.now ls after ss (set ss w c.keep_left.new.stream) w left
    c.keep_left.new.stream c.requires.agree taken kept refl in
    record { agree = s.agree; same = s.same; none = s.none; still = s.still }

pub returns-else-is_following-clause-none : goal.returns-else-is_following-clause-none
returns-else-is_following-clause-none g c =
    none_here g.N.Namer.digest c.args.shop.now c.args.lanes.now c.args.streams.now.items c.args.lane c.index.result.now c.is_following.result
    c.requires.agree c.requires.lane c.index.ensures c.is_following.ensures c.if-is_following.false

pub unreachable-requires : goal.unreachable-requires
unreachable-requires g c =
    let t = c.take_at.ensures.taken in
    no_order g.K.Kit.gives g.N.Namer.digest g.G.Gate.entered t.0 c.in-Performed.field-0
    (sym (ap follows t.2)
    ∙ follows_here g.N.Namer.digest c.args.shop.now c.args.lanes.now c.args.streams.now.items c.args.lane c.index.result.now
    c.is_following.result c.requires.agree c.requires.lane c.index.ensures c.is_following.ensures c.if-is_following.true)
    (subst (FitsFlow g.K.Kit.gives g.N.Namer.digest g.G.Gate.entered t.0) c.in-Performed.is t.3)

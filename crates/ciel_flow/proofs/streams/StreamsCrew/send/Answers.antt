use Rattle.std.proofs.Common.{◌≡◌, ◌<◌, List, Option, None, ap, ◌∙◌, arith, get_or, length, refl, subst, sym}
use Rattle.std.specs.Prelude.{IfSome, is_some, not}
use Rattle.std.specs.Arc.{arc_value}
use Rattle.std.specs.Vec.{vec_capacity}
use Rattle.ciel_crew_lanes.specs.Seen.{lane_at}
use Rattle.ciel_flow_work.specs.Crewed.{lanes_told, orders_of}
use Rattle.ciel_flow_work.specs.Crews.{Takes}
use Rattle.ciel_flow_work.specs.Flowing.{as_crew}
use Rattle.ciel_crew_work.specs.declared.performing.Job.{Job}
use Rattle.ciel_crew_work.specs.declared.performing.Tools.{Tools}
use Rattle.ciel_crew_work.proofs.CrewSteps.{can_be_done, looks_there, none_there, orders_put, sent_told, told_many, tools_there}
use Rattle.ciel_flow.specs.Streaming.{IsBegun, IsSaid, Match, StreamsSeen, follows_in}
use Rattle.ciel_flow.specs.declared.begin.Hint.{Hint}
use Rattle.ciel_flow.specs.declared.lanes.Stream.{Stream}
use Rattle.ciel_flow.proofs.LaneSteps.{crew_at, crew_long, no_job, one_is_there}
use Rattle.ciel_flow.proofs.Standing.{laid_stands, stays}
use Rattle.ciel_flow.proofs.streams.StreamsCrew.send.Goals as goal

pub settle-requires-clause-lane : goal.settle-requires-clause-lane
settle-requires-clause-lane g c =
    let i = c.self.inside in
    let free = none_there (as_crew i.lanes) c.args.self.now.crew.out c.args.order.worker
    (ap (λ (s : StreamsSeen g.row.K.Denot g.row.N.Denot). s.crew.out) c.self.view_is) c.requires.worker c.requires.free in
    omega (arith, free.0, crew_long i.lanes)

pub settle-requires-clause-agree : goal.settle-requires-clause-agree
settle-requires-clause-agree g c =
    subst (λ s. Match g.N.Namer.digest s c.self.inside.lanes c.self.inside.streams.items) (sym c.deref.ensures) c.self.invariant.agree

pub take_ahead-ahead-requires-clause-agree : goal.take_ahead-ahead-requires-clause-agree
take_ahead-ahead-requires-clause-agree g c =
    subst (λ s. Match g.N.Namer.digest s c.settle.new.lanes c.settle.new.streams.items) (c.deref.ensures ∙ sym c.deref-2.ensures)
    c.settle.ensures.agree

pub take_ahead-ahead-requires-clause-few : goal.take_ahead-ahead-requires-clause-few
take_ahead-ahead-requires-clause-few g c =
    let i = c.self.inside in
    omega (arith, c.self.invariant.few, ap length c.settle.ensures.same, crew_long i.lanes, crew_long c.settle.new.lanes)

pub begin-requires-clause-worker : goal.begin-requires-clause-worker
begin-requires-clause-worker g c =
    let i = c.self.inside in
    let w = c.args.order.worker in
    let shop = arc_value i.shop in
    let one = c.settle.new.lanes in
    let two = c.take_ahead-ahead.new.lanes in
    let streams = c.take_ahead-ahead.new.streams.items in
    let same = c.take_ahead-ahead.ensures.same ∙ c.settle.ensures.same in
    let free = none_there (as_crew i.lanes) c.args.self.now.crew.out w (ap (λ (s : StreamsSeen g.row.K.Denot g.row.N.Denot). s.crew.out) c.self.view_is)
    c.requires.worker c.requires.free in
    let agree = subst (λ s. Match g.N.Namer.digest s two streams) c.deref-2.ensures c.take_ahead-ahead.ensures.agree in
    omega (arith, free.0, ap length same, crew_long two)

pub begin-requires-clause-many : goal.begin-requires-clause-many
begin-requires-clause-many g c = ap length c.as_slice-2.ensures.value ∙ c.take_ahead-ahead.ensures.agree.many

pub begin-requires-clause-agree : goal.begin-requires-clause-agree
begin-requires-clause-agree g c k =
    ap (λ (xs : List (Option Stream)). follows_in (get_or xs k None)) c.as_slice-2.ensures.value ∙ c.take_ahead-ahead.ensures.agree.each k

pub begin-requires-clause-gates : goal.begin-requires-clause-gates
begin-requires-clause-gates g c =
    let i = c.self.inside in
    let w = c.args.order.worker in
    let shop = arc_value i.shop in
    let one = c.settle.new.lanes in
    let two = c.take_ahead-ahead.new.lanes in
    let streams = c.take_ahead-ahead.new.streams.items in
    let same = c.take_ahead-ahead.ensures.same ∙ c.settle.ensures.same in
    let free = none_there (as_crew i.lanes) c.args.self.now.crew.out w (ap (λ (s : StreamsSeen g.row.K.Denot g.row.N.Denot). s.crew.out) c.self.view_is)
    c.requires.worker c.requires.free in
    let agree = subst (λ s. Match g.N.Namer.digest s two streams) c.deref-2.ensures c.take_ahead-ahead.ensures.agree in
    let now = stays g.K.Kit.gives g.N.Namer.digest shop i.lanes two i.idle.items i.room.items (vec_capacity i.room) i.streams.items streams i.hinted
    None i.back.items (vec_capacity i.back) c.self.invariant agree tt same in (
      ap length c.as_slice.ensures.value ∙ now.crew.keeps.same,
      λ k lt. ap (λ (xs : List (Option (Tools g.row.G.Denot))). is_some (get_or xs k None)) c.as_slice.ensures.value
          ∙ (now.crew.keeps.each k lt).one,
    )

pub begin-requires-clause-few : goal.begin-requires-clause-few
begin-requires-clause-few g c =
    let i = c.self.inside in
    let w = c.args.order.worker in
    let shop = arc_value i.shop in
    let one = c.settle.new.lanes in
    let two = c.take_ahead-ahead.new.lanes in
    let streams = c.take_ahead-ahead.new.streams.items in
    let same = c.take_ahead-ahead.ensures.same ∙ c.settle.ensures.same in
    let free = none_there (as_crew i.lanes) c.args.self.now.crew.out w (ap (λ (s : StreamsSeen g.row.K.Denot g.row.N.Denot). s.crew.out) c.self.view_is)
    c.requires.worker c.requires.free in
    let agree = subst (λ s. Match g.N.Namer.digest s two streams) c.deref-2.ensures c.take_ahead-ahead.ensures.agree in
    let now = stays g.K.Kit.gives g.N.Namer.digest shop i.lanes two i.idle.items i.room.items (vec_capacity i.room) i.streams.items streams i.hinted
    None i.back.items (vec_capacity i.back) c.self.invariant agree tt same in
    now.few

pub begin-requires-clause-hinted : goal.begin-requires-clause-hinted
begin-requires-clause-hinted g c =
    subst (λ o. IfSome o (IsSaid g.N.Namer.digest c.deref-3.result.now)) (sym c.take-hinted.ensures.value)
    (subst (λ s. IfSome c.self.inside.hinted (IsSaid g.N.Namer.digest s)) (sym c.deref-3.ensures) c.self.invariant.said)

pub lay-requires-clause-own : goal.lay-requires-clause-own
lay-requires-clause-own g c = c.in-Ok.ensures ∙ sym c.deref-4.ensures

pub lay-requires-clause-flow : goal.lay-requires-clause-flow
lay-requires-clause-flow g c = ap (λ s. g.K.Kit.gives s.kit) c.in-Ok.ensures ∙ c.self.invariant.flow

pub lay-requires-clause-begun : goal.lay-requires-clause-begun
lay-requires-clause-begun g c =
    subst (λ s. IfSome c.in_ok-begun.begun (IsBegun g.N.Namer.digest s c.args.order)) (c.deref-3.ensures ∙ sym c.deref-4.ensures)
    c.in_ok-begun.ensures.begun

pub lay-requires-clause-none : goal.lay-requires-clause-none
lay-requires-clause-none g c =
    let i = c.self.inside in
    let w = c.args.order.worker in
    let shop = arc_value i.shop in
    let one = c.settle.new.lanes in
    let two = c.take_ahead-ahead.new.lanes in
    let streams = c.take_ahead-ahead.new.streams.items in
    let same = c.take_ahead-ahead.ensures.same ∙ c.settle.ensures.same in
    let free = none_there (as_crew i.lanes) c.args.self.now.crew.out w (ap (λ (s : StreamsSeen g.row.K.Denot g.row.N.Denot). s.crew.out) c.self.view_is)
    c.requires.worker c.requires.free in
    let agree = subst (λ s. Match g.N.Namer.digest s two streams) c.deref-2.ensures c.take_ahead-ahead.ensures.agree in
    let now = stays g.K.Kit.gives g.N.Namer.digest shop i.lanes two i.idle.items i.room.items (vec_capacity i.room) i.streams.items streams i.hinted
    None i.back.items (vec_capacity i.back) c.self.invariant agree tt same in
    let there : w < length two = omega (arith, free.0, ap length same, crew_long two) in
    let job : Job g.row.K.Denot g.row.N.Denot g.row.G.Denot g.row.R.Denot =
    record { rt = i.rt; alloc = i.alloc; shop = c.in-Ok.shop; order = c.args.order; tools = c.in-Some.tools } in
    let idle = tools_there shop (as_crew i.lanes) i.idle.items w c.in-Some.tools c.index_mut.result.now free.0 c.self.invariant.crew.keeps
    c.in-Some.ensures.value c.index_mut.ensures.value in
    let look = looks_there shop (as_crew i.lanes) i.idle.items w c.in-Some.tools free.0 c.self.invariant.crew.keeps idle in
    let seen : (lane_at (as_crew two) w).out ≡ None = ap (λ x. (lane_at x w).out) same ∙ free.1 in
    no_job (lane_at two w).out (sym (ap (λ l. l.out) (crew_at two w there)) ∙ seen) (c.take_ahead-ahead.ensures.still w c.settle.ensures.none)

pub lay-requires-clause-agree : goal.lay-requires-clause-agree
lay-requires-clause-agree g c =
    subst (λ s. Match g.N.Namer.digest s c.take_ahead-ahead.new.lanes c.take_ahead-ahead.new.streams.items) (c.deref-2.ensures ∙ sym c.deref-4.ensures)
    c.take_ahead-ahead.ensures.agree

pub lay-requires-clause-takes : goal.lay-requires-clause-takes
lay-requires-clause-takes g c =
    let i = c.self.inside in
    let w = c.args.order.worker in
    let shop = arc_value i.shop in
    let one = c.settle.new.lanes in
    let two = c.take_ahead-ahead.new.lanes in
    let streams = c.take_ahead-ahead.new.streams.items in
    let same = c.take_ahead-ahead.ensures.same ∙ c.settle.ensures.same in
    let free = none_there (as_crew i.lanes) c.args.self.now.crew.out w (ap (λ (s : StreamsSeen g.row.K.Denot g.row.N.Denot). s.crew.out) c.self.view_is)
    c.requires.worker c.requires.free in
    let agree = subst (λ s. Match g.N.Namer.digest s two streams) c.deref-2.ensures c.take_ahead-ahead.ensures.agree in
    let now = stays g.K.Kit.gives g.N.Namer.digest shop i.lanes two i.idle.items i.room.items (vec_capacity i.room) i.streams.items streams i.hinted
    None i.back.items (vec_capacity i.back) c.self.invariant agree tt same in
    let there : w < length two = omega (arith, free.0, ap length same, crew_long two) in
    let job : Job g.row.K.Denot g.row.N.Denot g.row.G.Denot g.row.R.Denot =
    record { rt = i.rt; alloc = i.alloc; shop = c.in-Ok.shop; order = c.args.order; tools = c.in-Some.tools } in
    let idle = tools_there shop (as_crew i.lanes) i.idle.items w c.in-Some.tools c.index_mut.result.now free.0 c.self.invariant.crew.keeps
    c.in-Some.ensures.value c.index_mut.ensures.value in
    let look = looks_there shop (as_crew i.lanes) i.idle.items w c.in-Some.tools free.0 c.self.invariant.crew.keeps idle in
    let takes = subst (λ (s : StreamsSeen g.row.K.Denot g.row.N.Denot). Takes g.K.Kit.gives g.N.Namer.digest s.crew.shop c.args.order)
    (sym c.self.view_is) c.requires.takes in
    can_be_done shop g.K.Kit.gives g.N.Namer.digest job c.in-Ok.ensures takes c.self.invariant.crew.inputs c.self.invariant.crew.read look

pub invariant_of-self-in_err-begun : goal.invariant_of-self-in_err-begun
invariant_of-self-in_err-begun g c =
    let i = c.self.inside in
    let w = c.args.order.worker in
    let shop = arc_value i.shop in
    let one = c.settle.new.lanes in
    let two = c.take_ahead-ahead.new.lanes in
    let streams = c.take_ahead-ahead.new.streams.items in
    let same = c.take_ahead-ahead.ensures.same ∙ c.settle.ensures.same in
    let free = none_there (as_crew i.lanes) c.args.self.now.crew.out w (ap (λ (s : StreamsSeen g.row.K.Denot g.row.N.Denot). s.crew.out) c.self.view_is)
    c.requires.worker c.requires.free in
    let agree = subst (λ s. Match g.N.Namer.digest s two streams) c.deref-2.ensures c.take_ahead-ahead.ensures.agree in
    let said = subst (λ (o : Option Hint). IfSome o (IsSaid g.N.Namer.digest shop)) (sym c.take-hinted.ensures.after) tt in
    stays g.K.Kit.gives g.N.Namer.digest shop i.lanes two i.idle.items i.room.items (vec_capacity i.room) i.streams.items streams i.hinted
    c.take-hinted.new.self i.back.items (vec_capacity i.back) c.self.invariant agree said same

pub invariant_of-self-2 : goal.invariant_of-self-2
invariant_of-self-2 g c =
    let i = c.self.inside in
    let w = c.args.order.worker in
    let shop = arc_value i.shop in
    let one = c.settle.new.lanes in
    let two = c.take_ahead-ahead.new.lanes in
    let streams = c.take_ahead-ahead.new.streams.items in
    let same = c.take_ahead-ahead.ensures.same ∙ c.settle.ensures.same in
    let free = none_there (as_crew i.lanes) c.args.self.now.crew.out w (ap (λ (s : StreamsSeen g.row.K.Denot g.row.N.Denot). s.crew.out) c.self.view_is)
    c.requires.worker c.requires.free in
    let agree = subst (λ s. Match g.N.Namer.digest s two streams) c.deref-2.ensures c.take_ahead-ahead.ensures.agree in
    let said = subst (λ (o : Option Hint). IfSome o (IsSaid g.N.Namer.digest shop)) (sym c.take-hinted.ensures.after) tt in
    let now = stays g.K.Kit.gives g.N.Namer.digest shop i.lanes two i.idle.items i.room.items (vec_capacity i.room) i.streams.items streams i.hinted
    c.take-hinted.new.self i.back.items (vec_capacity i.back) c.self.invariant agree said same in
    let there : w < length two = omega (arith, free.0, ap length same, crew_long two) in
    let job : Job g.row.K.Denot g.row.N.Denot g.row.G.Denot g.row.R.Denot =
    record { rt = i.rt; alloc = i.alloc; shop = c.in-Ok.shop; order = c.args.order; tools = c.in-Some.tools } in
    let idle = tools_there shop (as_crew i.lanes) i.idle.items w c.in-Some.tools c.index_mut.result.now free.0 c.self.invariant.crew.keeps
    c.in-Some.ensures.value c.index_mut.ensures.value in
    let look = looks_there shop (as_crew i.lanes) i.idle.items w c.in-Some.tools free.0 c.self.invariant.crew.keeps idle in
    laid_stands g.K.Kit.gives g.N.Namer.digest shop two c.lay.new.lanes i.idle.items i.room.items (vec_capacity i.room) streams
    c.lay.new.streams.items c.take-hinted.new.self c.take-hinted.new.self i.back.items (vec_capacity i.back) now
    (subst (λ s. Match g.N.Namer.digest s c.lay.new.lanes c.lay.new.streams.items) c.deref-4.ensures c.lay.ensures.agree) said w _ job
    c.take.new.self there c.in-Ok.ensures refl look c.lay.ensures.laid c.take.ensures.after

pub returns-clause-out : goal.returns-clause-out
returns-clause-out g c =
    let i = c.self.inside in
    let w = c.args.order.worker in
    let shop = arc_value i.shop in
    let one = c.settle.new.lanes in
    let two = c.take_ahead-ahead.new.lanes in
    let streams = c.take_ahead-ahead.new.streams.items in
    let same = c.take_ahead-ahead.ensures.same ∙ c.settle.ensures.same in
    let free = none_there (as_crew i.lanes) c.args.self.now.crew.out w (ap (λ (s : StreamsSeen g.row.K.Denot g.row.N.Denot). s.crew.out) c.self.view_is)
    c.requires.worker c.requires.free in
    let agree = subst (λ s. Match g.N.Namer.digest s two streams) c.deref-2.ensures c.take_ahead-ahead.ensures.agree in
    let now = stays g.K.Kit.gives g.N.Namer.digest shop i.lanes two i.idle.items i.room.items (vec_capacity i.room) i.streams.items streams i.hinted
    None i.back.items (vec_capacity i.back) c.self.invariant agree tt same in
    let there : w < length two = omega (arith, free.0, ap length same, crew_long two) in
    let job : Job g.row.K.Denot g.row.N.Denot g.row.G.Denot g.row.R.Denot =
    record { rt = i.rt; alloc = i.alloc; shop = c.in-Ok.shop; order = c.args.order; tools = c.in-Some.tools } in
    let idle = tools_there shop (as_crew i.lanes) i.idle.items w c.in-Some.tools c.index_mut.result.now free.0 c.self.invariant.crew.keeps
    c.in-Some.ensures.value c.index_mut.ensures.value in
    let look = looks_there shop (as_crew i.lanes) i.idle.items w c.in-Some.tools free.0 c.self.invariant.crew.keeps idle in
    orders_put (as_crew two) (as_crew c.lay.new.lanes) c.args.self.now.crew.out w _ job
    (ap orders_of same ∙ ap (λ (s : StreamsSeen g.row.K.Denot g.row.N.Denot). s.crew.out) c.self.view_is) c.lay.ensures.laid

pub returns-clause-told : goal.returns-clause-told
returns-clause-told g c =
    let i = c.self.inside in
    let w = c.args.order.worker in
    let shop = arc_value i.shop in
    let one = c.settle.new.lanes in
    let two = c.take_ahead-ahead.new.lanes in
    let streams = c.take_ahead-ahead.new.streams.items in
    let same = c.take_ahead-ahead.ensures.same ∙ c.settle.ensures.same in
    let free = none_there (as_crew i.lanes) c.args.self.now.crew.out w (ap (λ (s : StreamsSeen g.row.K.Denot g.row.N.Denot). s.crew.out) c.self.view_is)
    c.requires.worker c.requires.free in
    let agree = subst (λ s. Match g.N.Namer.digest s two streams) c.deref-2.ensures c.take_ahead-ahead.ensures.agree in
    let now = stays g.K.Kit.gives g.N.Namer.digest shop i.lanes two i.idle.items i.room.items (vec_capacity i.room) i.streams.items streams i.hinted
    None i.back.items (vec_capacity i.back) c.self.invariant agree tt same in
    let there : w < length two = omega (arith, free.0, ap length same, crew_long two) in
    let job : Job g.row.K.Denot g.row.N.Denot g.row.G.Denot g.row.R.Denot =
    record { rt = i.rt; alloc = i.alloc; shop = c.in-Ok.shop; order = c.args.order; tools = c.in-Some.tools } in
    let idle = tools_there shop (as_crew i.lanes) i.idle.items w c.in-Some.tools c.index_mut.result.now free.0 c.self.invariant.crew.keeps
    c.in-Some.ensures.value c.index_mut.ensures.value in
    let look = looks_there shop (as_crew i.lanes) i.idle.items w c.in-Some.tools free.0 c.self.invariant.crew.keeps idle in
    let told = ap (λ x. lanes_told g.G.Gate.entered x i.idle.items) same
    ∙ ap (λ (s : StreamsSeen g.row.K.Denot g.row.N.Denot). s.crew.told) c.self.view_is in
    sent_told g.G.Gate.entered (as_crew two) (as_crew c.lay.new.lanes) i.idle.items c.args.self.now.crew.told _ job c.take.new.self told
    (omega (arith, there, crew_long two)) now.crew.keeps.same (ap (λ x. (lane_at x w).out) same ∙ free.1) idle c.lay.ensures.laid c.take.ensures.after

pub returns-clause-gates : goal.returns-clause-gates
returns-clause-gates g c =
    let i = c.self.inside in
    let w = c.args.order.worker in
    let shop = arc_value i.shop in
    let one = c.settle.new.lanes in
    let two = c.take_ahead-ahead.new.lanes in
    let streams = c.take_ahead-ahead.new.streams.items in
    let same = c.take_ahead-ahead.ensures.same ∙ c.settle.ensures.same in
    let free = none_there (as_crew i.lanes) c.args.self.now.crew.out w (ap (λ (s : StreamsSeen g.row.K.Denot g.row.N.Denot). s.crew.out) c.self.view_is)
    c.requires.worker c.requires.free in
    let agree = subst (λ s. Match g.N.Namer.digest s two streams) c.deref-2.ensures c.take_ahead-ahead.ensures.agree in
    let now = stays g.K.Kit.gives g.N.Namer.digest shop i.lanes two i.idle.items i.room.items (vec_capacity i.room) i.streams.items streams i.hinted
    None i.back.items (vec_capacity i.back) c.self.invariant agree tt same in
    let there : w < length two = omega (arith, free.0, ap length same, crew_long two) in
    let job : Job g.row.K.Denot g.row.N.Denot g.row.G.Denot g.row.R.Denot =
    record { rt = i.rt; alloc = i.alloc; shop = c.in-Ok.shop; order = c.args.order; tools = c.in-Some.tools } in
    let idle = tools_there shop (as_crew i.lanes) i.idle.items w c.in-Some.tools c.index_mut.result.now free.0 c.self.invariant.crew.keeps
    c.in-Some.ensures.value c.index_mut.ensures.value in
    let look = looks_there shop (as_crew i.lanes) i.idle.items w c.in-Some.tools free.0 c.self.invariant.crew.keeps idle in
    let told = ap (λ x. lanes_told g.G.Gate.entered x i.idle.items) same
    ∙ ap (λ (s : StreamsSeen g.row.K.Denot g.row.N.Denot). s.crew.told) c.self.view_is in
    told_many g.G.Gate.entered (as_crew two) (as_crew c.lay.new.lanes) i.idle.items _ c.args.self.now.crew.told w _ told c.lay.ensures.laid

pub unreachable-requires : goal.unreachable-requires
unreachable-requires g c =
    let i = c.self.inside in
    let w = c.args.order.worker in
    let keeps = c.self.invariant.crew.keeps in
    let free = none_there (as_crew i.lanes) c.args.self.now.crew.out w (ap (λ (s : StreamsSeen g.row.K.Denot g.row.N.Denot). s.crew.out) c.self.view_is)
    c.requires.worker c.requires.free in
    one_is_there i.idle.items w c.index_mut.result.now (omega (arith, free.0, keeps.same)) c.index_mut.ensures.value
    (sym c.take.ensures.value ∙ c.in_default-take.is) ((keeps.each w free.0).one ∙ ap (λ (o : Option (Job _ _ _ _)). not (is_some o)) free.1)

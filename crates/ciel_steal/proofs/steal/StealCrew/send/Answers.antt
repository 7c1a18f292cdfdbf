use Rattle.std.proofs.Common.{ap, refl, subst, sym}
use Rattle.std.specs.Arc.{arc_value}
use Rattle.std.specs.Vec.{vec_capacity}
use Rattle.ciel_crew_work.specs.Crews.{Takes}
use Rattle.ciel_crew_work.specs.Seen.{CrewSeen}
use Rattle.ciel_crew_work.specs.declared.performing.Job.{Job}
use Rattle.ciel_crew_work.proofs.CrewSteps.{can_be_done, looks_there, none_there, orders_put, sent_told, stands_put, told_many, tools_there}
use Rattle.ciel_steal.proofs.steal.StealCrew.send.Goals as goal

pub put-requires-clause-takes : goal.put-requires-clause-takes
put-requires-clause-takes g c =
    let i = c.self.inside in
    let w = c.args.order.worker in
    let shop = arc_value i.shop in
    let job : Job g.row.K.Denot g.row.N.Denot g.row.G.Denot g.row.R.Denot =
    record { rt = i.rt; alloc = i.alloc; shop = c.in-Ok.shop; order = c.args.order; tools = c.in-Some.tools } in
    let free = none_there i.lanes c.args.self.now.out w (ap (λ (s : CrewSeen g.row.K.Denot g.row.N.Denot). s.out) c.self.view_is)
    c.requires.worker c.requires.free in
    let tools = tools_there shop i.lanes i.idle.items w c.in-Some.tools c.index_mut.result.now free.0 c.self.invariant.keeps
    c.in-Some.ensures.value c.index_mut.ensures.value in
    let takes = subst (λ (s : CrewSeen g.row.K.Denot g.row.N.Denot). Takes g.K.Kit.gives g.N.Namer.digest s.shop c.args.order)
    (sym c.self.view_is) c.requires.takes in
    can_be_done shop g.K.Kit.gives g.N.Namer.digest job c.in-Ok.ensures takes c.self.invariant.inputs c.self.invariant.read
    (looks_there shop i.lanes i.idle.items w c.in-Some.tools free.0 c.self.invariant.keeps tools)

pub invariant_of-self-2 : goal.invariant_of-self-2
invariant_of-self-2 g c =
    let i = c.self.inside in
    let w = c.args.order.worker in
    let shop = arc_value i.shop in
    let job : Job g.row.K.Denot g.row.N.Denot g.row.G.Denot g.row.R.Denot =
    record { rt = i.rt; alloc = i.alloc; shop = c.in-Ok.shop; order = c.args.order; tools = c.in-Some.tools } in
    let free = none_there i.lanes c.args.self.now.out w (ap (λ (s : CrewSeen g.row.K.Denot g.row.N.Denot). s.out) c.self.view_is)
    c.requires.worker c.requires.free in
    let tools = tools_there shop i.lanes i.idle.items w c.in-Some.tools c.index_mut.result.now free.0 c.self.invariant.keeps
    c.in-Some.ensures.value c.index_mut.ensures.value in
    let look = looks_there shop i.lanes i.idle.items w c.in-Some.tools free.0 c.self.invariant.keeps tools in
    stands_put shop i.lanes c.put.new.self i.idle.items i.room.items (vec_capacity i.room) w _ job c.take.new.self c.self.invariant free.0
    c.in-Ok.ensures refl look c.put.ensures.put c.take.ensures.after

pub returns-clause-out : goal.returns-clause-out
returns-clause-out g c =
    let i = c.self.inside in
    let job : Job g.row.K.Denot g.row.N.Denot g.row.G.Denot g.row.R.Denot =
    record { rt = i.rt; alloc = i.alloc; shop = c.in-Ok.shop; order = c.args.order; tools = c.in-Some.tools } in
    orders_put i.lanes c.put.new.self c.args.self.now.out c.args.order.worker _ job
    (ap (λ (s : CrewSeen g.row.K.Denot g.row.N.Denot). s.out) c.self.view_is) c.put.ensures.put

pub returns-clause-told : goal.returns-clause-told
returns-clause-told g c =
    let i = c.self.inside in
    let w = c.args.order.worker in
    let shop = arc_value i.shop in
    let job : Job g.row.K.Denot g.row.N.Denot g.row.G.Denot g.row.R.Denot =
    record { rt = i.rt; alloc = i.alloc; shop = c.in-Ok.shop; order = c.args.order; tools = c.in-Some.tools } in
    let free = none_there i.lanes c.args.self.now.out w (ap (λ (s : CrewSeen g.row.K.Denot g.row.N.Denot). s.out) c.self.view_is)
    c.requires.worker c.requires.free in
    let tools = tools_there shop i.lanes i.idle.items w c.in-Some.tools c.index_mut.result.now free.0 c.self.invariant.keeps
    c.in-Some.ensures.value c.index_mut.ensures.value in
    sent_told g.G.Gate.entered i.lanes c.put.new.self i.idle.items c.args.self.now.told _ job c.take.new.self
    (ap (λ (s : CrewSeen g.row.K.Denot g.row.N.Denot). s.told) c.self.view_is) free.0 c.self.invariant.keeps.same free.1 tools
    c.put.ensures.put c.take.ensures.after

pub returns-clause-gates : goal.returns-clause-gates
returns-clause-gates g c =
    let i = c.self.inside in
    told_many g.G.Gate.entered i.lanes c.put.new.self i.idle.items _ c.args.self.now.told c.args.order.worker _
    (ap (λ (s : CrewSeen g.row.K.Denot g.row.N.Denot). s.told) c.self.view_is) c.put.ensures.put

use Rattle.std.proofs.Common.{ap, subst, sym}
use Rattle.std.specs.Prelude.{IfOk}
use Rattle.std.specs.Arc.{arc_value}
use Rattle.std.specs.Vec.{vec_capacity}
use Rattle.ciel_flow_work.specs.Crewed.{orders_of}
use Rattle.ciel_flow_work.specs.Crews.{Answers, IsOut, Reports}
use Rattle.ciel_flow_work.specs.Flowing.{as_crew}
use Rattle.ciel_crew_work.proofs.CrewSteps.{takes_report, takes_told, told_many}
use Rattle.ciel_flow.specs.Streaming.{Match, StreamsSeen}
use Rattle.ciel_flow.proofs.Standing.{taken_stands}
use Rattle.ciel_flow.proofs.streams.StreamsCrew.next.Goals as goal

pub take_done-worker-requires-clause-out : goal.take_done-worker-requires-clause-out
take_done-worker-requires-clause-out g c =
    subst (λ (s : StreamsSeen g.row.K.Denot g.row.N.Denot). IsOut s.crew.out) (sym c.self.view_is) c.requires.out

pub take_done-worker-requires-clause-agree : goal.take_done-worker-requires-clause-agree
take_done-worker-requires-clause-agree g c =
    subst (λ s. Match g.N.Namer.digest s c.self.inside.lanes c.self.inside.streams.items) (sym c.deref.ensures) c.self.invariant.agree

pub invariant_of-self : goal.invariant_of-self
invariant_of-self g c =
    let i = c.self.inside in
    let shop = arc_value i.shop in
    let after = c.take_done-worker.new.lanes in
    let streams = c.take_done-worker.new.streams.items in
    let agree = subst (λ s. Match g.N.Namer.digest s after streams) c.deref.ensures c.take_done-worker.ensures.agree in
    taken_stands g.K.Kit.gives g.N.Namer.digest shop i.lanes after i.idle.items i.room.items (vec_capacity i.room) i.streams.items streams i.hinted
    i.hinted i.back.items (vec_capacity i.back) c.self.invariant agree c.self.invariant.said g.G.Gate.entered c.take_done-worker.result.0
    c.take_done-worker.result.1.done c.take_done-worker.ensures.taken

pub invariant_of-self-2 : goal.invariant_of-self-2
invariant_of-self-2 g c =
    let i = c.self.inside in
    let shop = arc_value i.shop in
    let after = c.take_done-worker.new.lanes in
    let streams = c.take_done-worker.new.streams.items in
    let agree = subst (λ s. Match g.N.Namer.digest s after streams) c.deref.ensures c.take_done-worker.ensures.agree in
    taken_stands g.K.Kit.gives g.N.Namer.digest shop i.lanes after i.idle.items i.room.items (vec_capacity i.room) i.streams.items streams i.hinted
    i.hinted i.back.items (vec_capacity i.back) c.self.invariant agree c.self.invariant.said g.G.Gate.entered c.take_done-worker.result.0
    c.take_done-worker.result.1.done c.take_done-worker.ensures.taken

pub returns-in_err-report-clause-gates : goal.returns-in_err-report-clause-gates
returns-in_err-report-clause-gates g c =
    let i = c.self.inside in
    told_many g.G.Gate.entered (as_crew i.lanes) (as_crew c.take_done-worker.new.lanes) i.idle.items _ c.args.self.now.crew.told
    c.take_done-worker.result.0 _ (ap (λ (s : StreamsSeen g.row.K.Denot g.row.N.Denot). s.crew.told) c.self.view_is)
    c.take_done-worker.ensures.taken.4

pub returns-clause-gates : goal.returns-clause-gates
returns-clause-gates g c =
    let i = c.self.inside in
    told_many g.G.Gate.entered (as_crew i.lanes) (as_crew c.take_done-worker.new.lanes) i.idle.items _ c.args.self.now.crew.told
    c.take_done-worker.result.0 _ (ap (λ (s : StreamsSeen g.row.K.Denot g.row.N.Denot). s.crew.told) c.self.view_is)
    c.take_done-worker.ensures.taken.4

pub returns-clause-told : goal.returns-clause-told
returns-clause-told g c =
    let i = c.self.inside in
    let t = c.take_done-worker.ensures.taken in
    takes_told g.G.Gate.entered (as_crew i.lanes) i.idle.items c.args.self.now.crew.told c.take_done-worker.result.0 _ t.0
    c.take_done-worker.result.1.done.tools (ap (λ (s : StreamsSeen g.row.K.Denot g.row.N.Denot). s.crew.told) c.self.view_is) t.1
    c.self.invariant.crew.keeps.same t.2 t.3.gate (as_crew c.take_done-worker.new.lanes) t.4

pub returns-clause-report : goal.returns-clause-report
returns-clause-report g c =
    let i = c.self.inside in
    let t = c.take_done-worker.ensures.taken in
    let after = as_crew c.take_done-worker.new.lanes in
    let answers = subst (λ r. IfOk r (Answers g.K.Kit.gives g.N.Namer.digest (arc_value t.0.shop) t.0.order)) c.in_ok-report.was t.3.report in
    let report = takes_report g.K.Kit.gives g.N.Namer.digest (arc_value i.shop) (as_crew i.lanes) i.idle.items c.args.self.now.crew.out
    c.take_done-worker.result.0 _ t.0 c.in_ok-report.report t.1 t.2 c.self.invariant.crew.keeps
    (ap (λ (s : StreamsSeen g.row.K.Denot g.row.N.Denot). s.crew.out) c.self.view_is) answers after t.4 in
    subst (λ (s : StreamsSeen g.row.K.Denot g.row.N.Denot). Reports g.K.Kit.gives g.N.Namer.digest s.crew.shop c.args.self.now.crew.out
    (orders_of after) c.in_ok-report.report) c.self.view_is report

use Rattle.std.proofs.Common.{None, ap, ◌∙◌, get_or, subst}
use Rattle.std.specs.Prelude.{IfOk}
use Rattle.std.specs.Arc.{arc_value}
use Rattle.std.specs.Vec.{vec_capacity}
use Rattle.ciel_crew_work.specs.Crews.{Answers, Reports}
use Rattle.ciel_crew_work.specs.Seen.{CrewSeen}
use Rattle.ciel_crew_work.specs.Crewed.{orders_of}
use Rattle.ciel_crew_work.proofs.CrewSteps.{out_at, stands_taken, takes_report, takes_told, told_many}
use Rattle.ciel_steal.proofs.steal.StealCrew.next.Goals as goal

pub take-worker-requires : goal.take-worker-requires
take-worker-requires g c =
    let o = c.requires.out in
    record {
      out = (
        o.0,
        out_at c.self.inside.lanes o.0 o.1
            (ap (λ (s : CrewSeen g.row.K.Denot g.row.N.Denot). get_or s.out o.0 None) c.self.view_is ∙ o.2),
      );
    }

pub invariant_of-self : goal.invariant_of-self
invariant_of-self g c =
    let i = c.self.inside in
    let t = c.take-worker.ensures.taken in
    stands_taken (arc_value i.shop) i.lanes c.take-worker.new.self i.idle.items i.room.items (vec_capacity i.room) c.take-worker.result.0 t.0
    c.take-worker.result.1.tools c.self.invariant t.1 t.2 t.3.look t.4

pub returns-in_err-report-clause-gates : goal.returns-in_err-report-clause-gates
returns-in_err-report-clause-gates g c =
    let i = c.self.inside in
    told_many g.G.Gate.entered i.lanes c.take-worker.new.self i.idle.items _ c.args.self.now.told c.take-worker.result.0 _
    (ap (λ (s : CrewSeen g.row.K.Denot g.row.N.Denot). s.told) c.self.view_is) c.take-worker.ensures.taken.4

pub invariant_of-self-2 : goal.invariant_of-self-2
invariant_of-self-2 g c =
    let i = c.self.inside in
    let t = c.take-worker.ensures.taken in
    stands_taken (arc_value i.shop) i.lanes c.take-worker.new.self i.idle.items i.room.items (vec_capacity i.room) c.take-worker.result.0 t.0
    c.take-worker.result.1.tools c.self.invariant t.1 t.2 t.3.look t.4

pub returns-clause-told : goal.returns-clause-told
returns-clause-told g c =
    let i = c.self.inside in
    let t = c.take-worker.ensures.taken in
    takes_told g.G.Gate.entered i.lanes i.idle.items c.args.self.now.told c.take-worker.result.0 _ t.0 c.take-worker.result.1.tools
    (ap (λ (s : CrewSeen g.row.K.Denot g.row.N.Denot). s.told) c.self.view_is) t.1 c.self.invariant.keeps.same t.2 t.3.gate
    c.take-worker.new.self t.4

pub returns-clause-gates : goal.returns-clause-gates
returns-clause-gates g c =
    let i = c.self.inside in
    told_many g.G.Gate.entered i.lanes c.take-worker.new.self i.idle.items _ c.args.self.now.told c.take-worker.result.0 _
    (ap (λ (s : CrewSeen g.row.K.Denot g.row.N.Denot). s.told) c.self.view_is) c.take-worker.ensures.taken.4

pub returns-clause-report : goal.returns-clause-report
returns-clause-report g c =
    let i = c.self.inside in
    let t = c.take-worker.ensures.taken in
    let answers = subst (λ r. IfOk r (Answers g.K.Kit.gives g.N.Namer.digest (arc_value t.0.shop) t.0.order)) c.in_ok-report.was t.3.report in
    let report = takes_report g.K.Kit.gives g.N.Namer.digest (arc_value i.shop) i.lanes i.idle.items c.args.self.now.out c.take-worker.result.0 _
    t.0 c.in_ok-report.report t.1 t.2 c.self.invariant.keeps (ap (λ (s : CrewSeen g.row.K.Denot g.row.N.Denot). s.out) c.self.view_is)
    answers c.take-worker.new.self t.4 in
    subst (λ (s : CrewSeen g.row.K.Denot g.row.N.Denot). Reports g.K.Kit.gives g.N.Namer.digest s.shop c.args.self.now.out
    (orders_of c.take-worker.new.self) c.in_ok-report.report) c.self.view_is report

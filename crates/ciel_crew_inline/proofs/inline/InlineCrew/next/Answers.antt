use Rattle.std.proofs.Common.{◌<◌, length, map, slice_set, subst, ap}
use Rattle.std.specs.Arc.{arc_value}
use Rattle.ciel_task.specs.Crews.{Reports}
use Rattle.ciel_task.specs.Seen.{CrewSeen}
use Rattle.ciel_crew_inline.specs.Kept.{order_of}
use Rattle.ciel_crew_inline.proofs.KeptReports.{handed, none_out, stands_handed, taken_is}
use Rattle.ciel_crew_inline.proofs.inline.InlineCrew.next.Goals as goal

pub unreachable-requires : goal.unreachable-requires
unreachable-requires g c =
    none_out c.self.inside.kept.items c.as_slice.result.now c.args.self.now.out
    (ap (λ (s : CrewSeen g.row.K.Denot g.row.N.Denot). s.out) c.self.view_is) c.as_slice.ensures.value c.in_default.ensures c.requires.out

pub invariant_of-self : goal.invariant_of-self
invariant_of-self g c =
    let kept = c.self.inside.kept.items in
    let under : c.in-Some.worker < length kept = subst (λ l. c.in-Some.worker < length l) c.as_slice.ensures.value c.in-Some.ensures.0 in
    stands_handed g.K.Kit.gives g.N.Namer.digest (arc_value c.self.inside.shop) (length c.self.inside.gates.items) c.self.inside.eyes.items kept
    c.in-Some.worker c.take.new.self c.self.invariant under c.take.ensures.after

pub returns-clause-report : goal.returns-clause-report
returns-clause-report g c =
    let kept = c.self.inside.kept.items in
    let w = c.in-Some.worker in
    let under : w < length kept = subst (λ l. w < length l) c.as_slice.ensures.value c.in-Some.ensures.0 in
    let is = taken_is kept w c.index_mut.result.now c.take.result c.in-Some-take.kept under c.index_mut.ensures.value c.take.ensures.value
    c.in-Some-take.is in
    subst (λ (s : CrewSeen g.row.K.Denot g.row.N.Denot). Reports g.K.Kit.gives g.N.Namer.digest s.shop s.out
    (map order_of (slice_set kept w c.take.new.self)) c.in-Some-take.kept.report) c.self.view_is
    (handed g.K.Kit.gives g.N.Namer.digest (arc_value c.self.inside.shop) kept w c.in-Some-take.kept c.take.new.self c.self.invariant.so is
    c.take.ensures.after)

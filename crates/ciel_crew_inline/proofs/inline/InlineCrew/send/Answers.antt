use Rattle.std.proofs.Common.{◌<◌, Some, length, map, slice_set, refl, subst, sym, ap, ◌∙◌, arith}
use Rattle.std.proofs.lemmas.List.{length-set}
use Rattle.std.specs.Arc.{arc_value}
use Rattle.ciel_task.specs.Crews.{Answers, TellsTask}
use Rattle.ciel_task.specs.Seen.{CrewSeen}
use Rattle.ciel_crew_inline.proofs.KeptReports.{enters, kept_at, kept_set, looks_there, out_set, stands_after, within}
use Rattle.ciel_crew_inline.proofs.inline.InlineCrew.send.Goals as goal

pub invariant_of-self : goal.invariant_of-self
invariant_of-self g c =
    let i = c.self.inside in
    let w = c.args.order.worker in
    let under = within i.kept.items (ap (λ (s : CrewSeen g.row.K.Denot g.row.N.Denot). s.out) c.self.view_is) c.requires.worker in
    let at : w < length i.eyes.items = omega (arith, under, c.self.invariant.all, c.self.invariant.many) in
    stands_after g.K.Kit.gives g.N.Namer.digest (arc_value i.shop) i.gates.items w c.perform_one.new.gate i.eyes.items c.perform_one.new.eye
    i.kept.items i.kept.items c.self.invariant at
    (c.perform_one.ensures.of ∙ looks_there (arc_value i.shop) i.eyes.items w c.index_mut-2.result.now c.self.invariant.look at
    c.index_mut-2.ensures.value) refl c.self.invariant.so

pub invariant_of-self-2 : goal.invariant_of-self-2
invariant_of-self-2 g c =
    let i = c.self.inside in
    let w = c.args.order.worker in
    let under = within i.kept.items (ap (λ (s : CrewSeen g.row.K.Denot g.row.N.Denot). s.out) c.self.view_is) c.requires.worker in
    let at : w < length i.eyes.items = omega (arith, under, c.self.invariant.all, c.self.invariant.many) in
    let one = kept_at g.K.Kit.gives g.N.Namer.digest (arc_value i.shop) c.args.order c.in_ok-kept.kept c.in_ok-kept.ensures.order
    (subst (λ s. Answers g.K.Kit.gives g.N.Namer.digest s c.args.order c.in_ok-kept.kept.report) c.deref.ensures
    c.in_ok-kept.ensures.answers) in
    stands_after g.K.Kit.gives g.N.Namer.digest (arc_value i.shop) i.gates.items w c.perform_one.new.gate i.eyes.items c.perform_one.new.eye
    i.kept.items (slice_set i.kept.items w (Some c.in_ok-kept.kept)) c.self.invariant at
    (c.perform_one.ensures.of ∙ looks_there (arc_value i.shop) i.eyes.items w c.index_mut-2.result.now c.self.invariant.look at
    c.index_mut-2.ensures.value) (length-set i.kept.items w (Some c.in_ok-kept.kept))
    (kept_set g.K.Kit.gives g.N.Namer.digest (arc_value i.shop) i.kept.items w (Some c.in_ok-kept.kept) under c.self.invariant.so one)

pub returns-clause-out : goal.returns-clause-out
returns-clause-out g c =
    let kept = c.self.inside.kept.items in
    let w = c.args.order.worker in
    out_set kept w (Some c.in_ok-kept.kept) (Some c.args.order) (ap Some c.in_ok-kept.ensures.order)
    ∙ ap (λ (s : CrewSeen g.row.K.Denot g.row.N.Denot). slice_set s.out w (Some c.args.order)) c.self.view_is

pub returns-clause-told : goal.returns-clause-told
returns-clause-told g c =
    let i = c.self.inside in
    let w = c.args.order.worker in
    let under = within i.kept.items (ap (λ (s : CrewSeen g.row.K.Denot g.row.N.Denot). s.out) c.self.view_is) c.requires.worker in
    let at : w < length i.gates.items = omega (arith, under, c.self.invariant.all) in
    subst (λ (s : CrewSeen g.row.K.Denot g.row.N.Denot). TellsTask c.args.order s.told
    (map g.G.Gate.entered (slice_set i.gates.items w c.perform_one.new.gate))) c.self.view_is
    (enters g.G.Gate.entered i.gates.items w c.index_mut.result.now c.perform_one.new.gate c.args.order.task at
    (sym c.index_mut.ensures.value) c.perform_one.ensures.entered)

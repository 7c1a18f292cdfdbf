use Rattle.std.proofs.Common.{◌≡◌, ◌<◌, List, Option, ap, ◌∙◌, length, map, set, subst, sym}
use Rattle.std.proofs.lemmas.List.{length-map, length-set}
use Rattle.std.specs.Arc.{arc_value}
use Rattle.std.specs.Vec.{vec_capacity}
use Rattle.ciel_task_crew.specs.Crews.{IsOut, Reports}
use Rattle.ciel_task_crew.specs.Seen.{CrewSeen}
use Rattle.ciel_crew_rounds.specs.Seats.{order_of, told_of}
use Rattle.ciel_crew_rounds.proofs.RoundsSeen.{handed_report, handed_stands, handed_told, stands_play}
use Rattle.ciel_crew_rounds.proofs.rounds.RoundsCrew.next.Goals as goal

pub kept_after-worker-requires-clause-can : goal.kept_after-worker-requires-clause-can
kept_after-worker-requires-clause-can g c =
    let i = c.self.inside in
    stands_play g.K.Kit.gives g.N.Namer.digest (arc_value i.shop) i.lanes i.seats.items i.room.items (vec_capacity i.room) c.self.invariant

pub kept_after-worker-requires-clause-out : goal.kept_after-worker-requires-clause-out
kept_after-worker-requires-clause-out g c =
    subst (λ (s : CrewSeen g.row.K.Denot g.row.N.Denot). IsOut s.out) (sym c.self.view_is) c.requires.out

pub invariant_of-self : goal.invariant_of-self
invariant_of-self g c =
    let i = c.self.inside in
    let k = c.kept_after-worker in
    let w = k.result in
    let seats = k.new.seats.items in
    let room = vec_capacity i.room in
    let stands = c.self.invariant in
    handed_stands g.K.Kit.gives g.N.Namer.digest g.G.Gate.entered (arc_value i.shop) i.lanes k.new.lanes i.seats.items seats i.room.items room w
    c.index_mut.result.now c.hand_out-report.new.seat stands k.ensures.can k.ensures.goes k.ensures.worker k.ensures.kept
    c.index_mut.ensures.value c.hand_out-report.ensures.idle

pub returns-in_err-report-clause-gates : goal.returns-in_err-report-clause-gates
returns-in_err-report-clause-gates g c =
    let i = c.self.inside in
    let k = c.kept_after-worker in
    let seats = k.new.seats.items in
    length-map _ (told_of g.G.Gate.entered) ∙ (length-set seats k.result c.hand_out-report.new.seat ∙ (k.ensures.goes.0
    ∙ (sym (length-map i.seats.items (told_of g.G.Gate.entered))
    ∙ ap (λ (s : CrewSeen g.row.K.Denot g.row.N.Denot). length s.told) c.self.view_is)))

pub invariant_of-self-2 : goal.invariant_of-self-2
invariant_of-self-2 g c =
    let i = c.self.inside in
    let k = c.kept_after-worker in
    let w = k.result in
    let seats = k.new.seats.items in
    let room = vec_capacity i.room in
    let stands = c.self.invariant in
    handed_stands g.K.Kit.gives g.N.Namer.digest g.G.Gate.entered (arc_value i.shop) i.lanes k.new.lanes i.seats.items seats i.room.items room w
    c.index_mut.result.now c.hand_out-report.new.seat stands k.ensures.can k.ensures.goes k.ensures.worker k.ensures.kept
    c.index_mut.ensures.value c.hand_out-report.ensures.idle

pub returns-clause-told : goal.returns-clause-told
returns-clause-told g c =
    let i = c.self.inside in
    let k = c.kept_after-worker in
    let w = k.result in
    let seats = k.new.seats.items in
    let room = vec_capacity i.room in
    let stands = c.self.invariant in
    handed_told g.K.Kit.gives g.N.Namer.digest g.G.Gate.entered (arc_value i.shop) i.lanes k.new.lanes i.seats.items seats i.room.items room w
    c.index_mut.result.now c.hand_out-report.new.seat stands k.ensures.can k.ensures.goes k.ensures.worker k.ensures.kept
    c.index_mut.ensures.value c.hand_out-report.ensures.idle
    c.args.self.now.told (ap (λ (s : CrewSeen g.row.K.Denot g.row.N.Denot). s.told) c.self.view_is)

pub returns-clause-gates : goal.returns-clause-gates
returns-clause-gates g c =
    let i = c.self.inside in
    let k = c.kept_after-worker in
    let seats = k.new.seats.items in
    length-map _ (told_of g.G.Gate.entered) ∙ (length-set seats k.result c.hand_out-report.new.seat ∙ (k.ensures.goes.0
    ∙ (sym (length-map i.seats.items (told_of g.G.Gate.entered))
    ∙ ap (λ (s : CrewSeen g.row.K.Denot g.row.N.Denot). length s.told) c.self.view_is)))

pub returns-clause-report : goal.returns-clause-report
returns-clause-report g c =
    let i = c.self.inside in
    let k = c.kept_after-worker in
    let w = k.result in
    let seats = k.new.seats.items in
    let room = vec_capacity i.room in
    let stands = c.self.invariant in
    let report = handed_report g.K.Kit.gives g.N.Namer.digest g.G.Gate.entered (arc_value i.shop) i.lanes k.new.lanes i.seats.items seats i.room.items room w
    c.index_mut.result.now c.hand_out-report.new.seat stands k.ensures.can k.ensures.goes k.ensures.worker k.ensures.kept
    c.index_mut.ensures.value c.hand_out-report.ensures.idle
    c.args.self.now.out c.hand_out-report.result c.in_ok-report.report (ap (λ (s : CrewSeen g.row.K.Denot g.row.N.Denot). s.out) c.self.view_is)
    c.hand_out-report.ensures.report c.in_ok-report.was in
    subst (λ (s : CrewSeen g.row.K.Denot g.row.N.Denot). Reports g.K.Kit.gives g.N.Namer.digest s.shop c.args.self.now.out
    (map order_of (set seats w c.hand_out-report.new.seat)) c.in_ok-report.report) c.self.view_is report

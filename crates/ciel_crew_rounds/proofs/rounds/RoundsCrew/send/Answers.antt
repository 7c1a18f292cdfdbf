use Rattle.std.proofs.Common.{◌≡◌, ◌<◌, List, Option, ap, ◌∙◌, arith, length, map, refl, subst, sym}
use Rattle.std.proofs.lemmas.List.{length-map, length-set}
use Rattle.std.specs.Arc.{arc_value}
use Rattle.std.specs.Vec.{vec_capacity}
use Rattle.ciel_task_order.specs.declared.order.Order.{Order}
use Rattle.ciel_task_crew.specs.Crews.{Takes, order_at}
use Rattle.ciel_task_crew.specs.Seen.{CrewSeen}
use Rattle.ciel_crew_work.specs.declared.performing.Job.{Job}
use Rattle.ciel_crew_work.specs.declared.performing.Tools.{Tools}
use Rattle.ciel_crew_work.proofs.CrewSteps.{can_be_done}
use Rattle.ciel_crew_rounds.specs.Seats.{order_of, told_of}
use Rattle.ciel_crew_rounds.proofs.RoundsSeen.{given, idle_there, look_there, sent_out, sent_stands, sent_told}
use Rattle.ciel_crew_rounds.proofs.SeatSteps.{order_here}
use Rattle.ciel_crew_rounds.proofs.rounds.RoundsCrew.send.Goals as goal

pub give-requires : goal.give-requires
give-requires g c =
    let i = c.self.inside in
    let w = c.args.order.worker in
    let ss = i.seats.items in
    let shop = arc_value i.shop in
    let room = vec_capacity i.room in
    let seen = c.index_mut.result.now in
    let e = ap (λ (s : CrewSeen g.row.K.Denot g.row.N.Denot). s.out) c.self.view_is in
    let lt : w < length ss = omega (arith, c.requires.worker, ap length e, length-map ss order_of) in
    let none = sym (order_here ss w) ∙ (ap (λ (o : List (Option Order)). order_at o w) e ∙ c.requires.free) in
    record {
      idle = idle_there g.K.Kit.gives g.N.Namer.digest g.G.Gate.entered shop i.lanes ss i.room.items room w seen seen c.self.invariant lt
          c.index_mut.ensures.value none;
    }

pub invariant_of-self-2 : goal.invariant_of-self-2
invariant_of-self-2 g c =
    let i = c.self.inside in
    let w = c.args.order.worker in
    let ss = i.seats.items in
    let shop = arc_value i.shop in
    let room = vec_capacity i.room in
    let seen = c.index_mut.result.now in
    let e = ap (λ (s : CrewSeen g.row.K.Denot g.row.N.Denot). s.out) c.self.view_is in
    let lt : w < length ss = omega (arith, c.requires.worker, ap length e, length-map ss order_of) in
    let none = sym (order_here ss w) ∙ (ap (λ (o : List (Option Order)). order_at o w) e ∙ c.requires.free) in
    let after = c.give.new.seat in
    let idle = idle_there g.K.Kit.gives g.N.Namer.digest g.G.Gate.entered shop i.lanes ss i.room.items room w seen after c.self.invariant lt
    c.index_mut.ensures.value none in
    let make : Tools g.row.G.Denot → Job g.row.K.Denot g.row.N.Denot g.row.G.Denot g.row.R.Denot =
    (λ tools. record { rt = i.rt; alloc = i.alloc; shop = c.in-Ok.shop; order = c.args.order; tools = tools }) in
    let there = given make seen after idle c.give.ensures.sent in
    let job = make there.0 in
    let look = look_there g.K.Kit.gives g.N.Namer.digest g.G.Gate.entered shop i.lanes ss i.room.items room w seen after
    c.self.invariant lt c.index_mut.ensures.value job there.1 there.2 in
    let takes = subst (λ (s : CrewSeen g.row.K.Denot g.row.N.Denot). Takes g.K.Kit.gives g.N.Namer.digest s.shop c.args.order)
    (sym c.self.view_is) c.requires.takes in
    sent_stands g.K.Kit.gives g.N.Namer.digest g.G.Gate.entered shop i.lanes ss i.room.items room w seen after
    c.self.invariant lt c.index_mut.ensures.value job there.1 there.2
    (can_be_done shop g.K.Kit.gives g.N.Namer.digest job c.in-Ok.ensures takes c.self.invariant.inputs c.self.invariant.read look) c.in-Ok.ensures
    refl

pub returns-clause-out : goal.returns-clause-out
returns-clause-out g c =
    let i = c.self.inside in
    let w = c.args.order.worker in
    let ss = i.seats.items in
    let shop = arc_value i.shop in
    let room = vec_capacity i.room in
    let seen = c.index_mut.result.now in
    let e = ap (λ (s : CrewSeen g.row.K.Denot g.row.N.Denot). s.out) c.self.view_is in
    let lt : w < length ss = omega (arith, c.requires.worker, ap length e, length-map ss order_of) in
    let none = sym (order_here ss w) ∙ (ap (λ (o : List (Option Order)). order_at o w) e ∙ c.requires.free) in
    let after = c.give.new.seat in
    let idle = idle_there g.K.Kit.gives g.N.Namer.digest g.G.Gate.entered shop i.lanes ss i.room.items room w seen after c.self.invariant lt
    c.index_mut.ensures.value none in
    let make : Tools g.row.G.Denot → Job g.row.K.Denot g.row.N.Denot g.row.G.Denot g.row.R.Denot =
    (λ tools. record { rt = i.rt; alloc = i.alloc; shop = c.in-Ok.shop; order = c.args.order; tools = tools }) in
    let there = given make seen after idle c.give.ensures.sent in
    let job = make there.0 in
    sent_out g.K.Kit.gives g.N.Namer.digest g.G.Gate.entered shop i.lanes ss i.room.items room w seen after
    c.self.invariant lt c.index_mut.ensures.value job there.1 there.2
    c.args.self.now.out e

pub returns-clause-told : goal.returns-clause-told
returns-clause-told g c =
    let i = c.self.inside in
    let w = c.args.order.worker in
    let ss = i.seats.items in
    let shop = arc_value i.shop in
    let room = vec_capacity i.room in
    let seen = c.index_mut.result.now in
    let e = ap (λ (s : CrewSeen g.row.K.Denot g.row.N.Denot). s.out) c.self.view_is in
    let lt : w < length ss = omega (arith, c.requires.worker, ap length e, length-map ss order_of) in
    let none = sym (order_here ss w) ∙ (ap (λ (o : List (Option Order)). order_at o w) e ∙ c.requires.free) in
    let after = c.give.new.seat in
    let idle = idle_there g.K.Kit.gives g.N.Namer.digest g.G.Gate.entered shop i.lanes ss i.room.items room w seen after c.self.invariant lt
    c.index_mut.ensures.value none in
    let make : Tools g.row.G.Denot → Job g.row.K.Denot g.row.N.Denot g.row.G.Denot g.row.R.Denot =
    (λ tools. record { rt = i.rt; alloc = i.alloc; shop = c.in-Ok.shop; order = c.args.order; tools = tools }) in
    let there = given make seen after idle c.give.ensures.sent in
    let job = make there.0 in
    sent_told g.K.Kit.gives g.N.Namer.digest g.G.Gate.entered shop i.lanes ss i.room.items room w seen after
    c.self.invariant lt c.index_mut.ensures.value job there.1 there.2
    c.args.self.now.told (ap (λ (s : CrewSeen g.row.K.Denot g.row.N.Denot). s.told) c.self.view_is)

pub returns-clause-gates : goal.returns-clause-gates
returns-clause-gates g c =
    let ss = c.self.inside.seats.items in
    length-map _ (told_of g.G.Gate.entered) ∙ (length-set ss c.args.order.worker c.give.new.seat ∙ (sym (length-map ss (told_of g.G.Gate.entered))
    ∙ ap (λ (s : CrewSeen g.row.K.Denot g.row.N.Denot). length s.told) c.self.view_is))

use Rattle.std.proofs.Common.{Some, refl, subst, sym}
use Rattle.std.specs.Arc.{arc_value}
use Rattle.std.specs.Vec.{vec_capacity}
use Rattle.ciel_task_crew.specs.Hints.{LeadsTo}
use Rattle.ciel_flow.specs.Streaming.{IsSaid, StreamsSeen}
use Rattle.ciel_flow.proofs.Standing.{stays}
use Rattle.ciel_flow.proofs.streams.StreamsCrew.hint.Goals as goal

pub invariant_of-self-2 : goal.invariant_of-self-2
invariant_of-self-2 g c =
    let i = c.self.inside in
    let shop = arc_value i.shop in
    let order = c.args.order.now in
    let consumer = c.args.consumer.now in
    let said = subst (IsSaid g.N.Namer.digest shop) (sym c.in_ok-hint.ensures)
    record {
      order = order;
      leads = subst (λ (s : StreamsSeen g.row.K.Denot g.row.N.Denot). LeadsTo g.N.Namer.digest s.crew.shop order consumer) (sym c.self.view_is)
          c.requires.reach;
      is = refl;
    } in
    stays g.K.Kit.gives g.N.Namer.digest shop i.lanes i.lanes i.idle.items i.room.items (vec_capacity i.room) i.streams.items i.streams.items i.hinted
    (Some c.in_ok-hint.hint) i.back.items (vec_capacity i.back) c.self.invariant c.self.invariant.agree said refl

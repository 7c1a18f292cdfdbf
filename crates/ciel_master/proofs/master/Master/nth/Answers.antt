use Rattle.std.proofs.Common.{ℕ, ◌<◌, sym, subst, vec_capacity}
use Rattle.std.specs.Arc.{arc_value}
use Rattle.ciel_want_ready.specs.Seen.{CanRunAt, CanRunMany, ReadySeen}
use Rattle.ciel_task_order.specs.Views.{P}
use Rattle.ciel_master.specs.Seen.{MasterStands, board_of}
use Rattle.ciel_master.proofs.Kept.{ready_is, ready_whole}
use Rattle.ciel_master.proofs.master.Master.nth.Goals as goal

pub nth-requires : goal.nth-requires
nth-requires g c =
    let i = c.self.inside in
    let n = (arc_value i.shop).namer in
    let b = board_of i.plan (arc_value i.shop).job.script.keys i.main i.ready.table i.orders.items i.starts i.closes i.journal.items i.stopped in
    record {
      whole = ready_whole g.N.Namer.digest c.args.self.now n (arc_value i.shop).shelves (arc_value i.shop).job.script b c.self.view_is i.lost.items
          (vec_capacity i.journal) (vec_capacity i.lost) i.marker i.ready c.self.invariant c.requires.going;
      within =
          subst (λ (r : ReadySeen P). (n : ℕ) × CanRunMany r n × (c.args.k < n))
          (sym (ready_is g.N.Namer.digest c.args.self.now n (arc_value i.shop).shelves (arc_value i.shop).job.script b c.self.view_is i.lost.items (vec_capacity i.journal)
          (vec_capacity i.lost) i.marker i.ready c.self.invariant c.requires.going)) c.requires.within;
    }

pub invariant_of-self : goal.invariant_of-self
invariant_of-self g c =
    let i = c.self.inside in
    subst (λ (r : ReadySeen P). MasterStands (g.N.Namer.digest (arc_value i.shop).namer)
    (board_of i.plan (arc_value i.shop).job.script.keys i.main r.table i.orders.items i.starts i.closes i.journal.items i.stopped)
    i.lost.items (vec_capacity i.journal) (vec_capacity i.lost) (arc_value i.shop).shelves (arc_value i.shop).job.script i.marker r) (sym c.nth.ensures.same)
    c.self.invariant

pub returns-clause-task : goal.returns-clause-task
returns-clause-task g c =
    let i = c.self.inside in
    let n = (arc_value i.shop).namer in
    let b = board_of i.plan (arc_value i.shop).job.script.keys i.main i.ready.table i.orders.items i.starts i.closes i.journal.items i.stopped in
    subst (λ (r : ReadySeen P). CanRunAt r c.args.k c.in_ok-task.task)
    (ready_is g.N.Namer.digest c.args.self.now n (arc_value i.shop).shelves (arc_value i.shop).job.script b c.self.view_is i.lost.items (vec_capacity i.journal)
    (vec_capacity i.lost) i.marker i.ready c.self.invariant c.requires.going) c.in_ok-task.ensures.task

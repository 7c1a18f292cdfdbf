use Rattle.std.proofs.Common.{length, map, refl, ap, sym, ◌∙◌, arith, vec_capacity}
use Rattle.std.specs.Arc.{arc_value}
use Rattle.ciel_master.specs.Seen.{board_of}
use Rattle.ciel_master.specs.Views.{entry_view, kept_view}
use Rattle.ciel_master.proofs.Kept.{closed_ready, closed_table, line_now, lost_so, lost_stands, marked_lost, of_now, one_each, place_now, shelf_now}
use Rattle.ciel_master.proofs.Kept.{changed_out}
use Rattle.ciel_master.proofs.master.Master.lose.Goals as goal

pub note_loss-requires-clause-place : goal.note_loss-requires-clause-place
note_loss-requires-clause-place g c =
    let i = c.self.inside in
    let n = (arc_value i.shop).namer in
    let b = board_of i.plan (arc_value i.shop).job.script.keys i.main i.ready.table i.orders.items i.starts i.closes i.journal.items i.stopped in
    place_now g.N.Namer.digest c.args.self.now n (arc_value i.shop).shelves (arc_value i.shop).job.script b c.self.view_is i.lost.items (vec_capacity i.journal)
    (vec_capacity i.lost) i.marker i.ready c.self.invariant c.requires.going c.args.number c.requires.due c.as_slice-losses.result.now
    c.as_slice-losses.ensures.losses

pub note_loss-requires-clause-line : goal.note_loss-requires-clause-line
note_loss-requires-clause-line g c =
    let i = c.self.inside in
    let n = (arc_value i.shop).namer in
    let b = board_of i.plan (arc_value i.shop).job.script.keys i.main i.ready.table i.orders.items i.starts i.closes i.journal.items i.stopped in
    line_now g.N.Namer.digest c.args.self.now n (arc_value i.shop).shelves (arc_value i.shop).job.script b c.self.view_is i.lost.items (vec_capacity i.journal)
    (vec_capacity i.lost) i.marker i.ready c.self.invariant c.requires.going c.args.number c.requires.due c.as_slice-losses.result.now
    c.as_slice-losses.ensures.losses i.journal.items refl

five : {A B C D E : Type 0} → A × B × C → D → E → A × B × C × D × E
five x d e = (x.0, x.1, x.2, d, e)

pub invariant_of-self : goal.invariant_of-self
invariant_of-self g c =
    let i = c.self.inside in
    let n = (arc_value i.shop).namer in
    let b = board_of i.plan (arc_value i.shop).job.script.keys i.main i.ready.table i.orders.items i.starts i.closes i.journal.items i.stopped in
    let then = c.drop_worker.new.self in
    let last = c.close_lost.new.ready in
    let os = map kept_view c.close_lost.new.orders.items in
    let table = closed_table g.N.Namer.digest c.args.self.now n (arc_value i.shop).shelves (arc_value i.shop).job.script b c.self.view_is i.lost.items (vec_capacity i.journal)
    (vec_capacity i.lost) i.marker i.ready c.self.invariant c.requires.going then last _ os c.drop_worker.ensures.dropped
    c.close_lost.ensures.ready in
    let kept = closed_ready g.N.Namer.digest c.args.self.now n (arc_value i.shop).shelves (arc_value i.shop).job.script b c.self.view_is i.lost.items (vec_capacity i.journal)
    (vec_capacity i.lost) i.marker i.ready c.self.invariant c.requires.going then last _ os c.drop_worker.ensures.dropped
    c.close_lost.ensures.ready in
    λ run. five (lost_stands g.N.Namer.digest c.args.self.now n (arc_value i.shop).shelves (arc_value i.shop).job.script b c.self.view_is i.lost.items (vec_capacity i.journal)
    (vec_capacity i.lost) i.marker i.ready c.self.invariant c.requires.going c.args.number c.requires.due c.as_slice-losses.result.now
    c.as_slice-losses.ensures.losses last.table os (map entry_view c.note_loss.new.journal.items) table c.close_lost.ensures.orders
    c.note_loss.ensures.written c.note_loss.new.lost.items c.note_loss.ensures.lost (vec_capacity c.note_loss.new.journal)
    (vec_capacity c.note_loss.new.lost) c.note_loss.ensures.lines c.note_loss.ensures.places)
    (marked_lost g.N.Namer.digest c.args.self.now n (arc_value i.shop).shelves (arc_value i.shop).job.script b c.self.view_is i.lost.items (vec_capacity i.journal)
    (vec_capacity i.lost) i.marker i.ready c.self.invariant c.requires.going c.args.number c.requires.due c.as_slice-losses.result.now
    c.as_slice-losses.ensures.losses last.table os (map entry_view c.note_loss.new.journal.items) table c.close_lost.ensures.orders
    c.note_loss.ensures.written c.note_loss.new.lost.items c.note_loss.ensures.lost c.mark_lost.new.marker c.mark_lost.ensures) kept

pub returns : goal.returns
returns g c =
    let i = c.self.inside in
    let n = (arc_value i.shop).namer in
    let b = board_of i.plan (arc_value i.shop).job.script.keys i.main i.ready.table i.orders.items i.starts i.closes i.journal.items i.stopped in
    let then = c.drop_worker.new.self in
    let last = c.close_lost.new.ready in
    let os = map kept_view c.close_lost.new.orders.items in
    let table = closed_table g.N.Namer.digest c.args.self.now n (arc_value i.shop).shelves (arc_value i.shop).job.script b c.self.view_is i.lost.items (vec_capacity i.journal)
    (vec_capacity i.lost) i.marker i.ready c.self.invariant c.requires.going then last _ os c.drop_worker.ensures.dropped
    c.close_lost.ensures.ready in
    record {
      lost = λ w d. lost_so g.N.Namer.digest c.args.self.now n (arc_value i.shop).shelves (arc_value i.shop).job.script b c.self.view_is i.lost.items
          (vec_capacity i.journal) (vec_capacity i.lost) i.marker i.ready c.self.invariant c.requires.going c.args.number c.requires.due
          c.as_slice-losses.result.now c.as_slice-losses.ensures.losses last.table os (map entry_view c.note_loss.new.journal.items) table
          c.close_lost.ensures.orders c.note_loss.ensures.written w d;
    }

pub mark_lost-requires-clause-of : goal.mark_lost-requires-clause-of
mark_lost-requires-clause-of g c =
    let i = c.self.inside in
    let n = (arc_value i.shop).namer in
    let b = board_of i.plan (arc_value i.shop).job.script.keys i.main i.ready.table i.orders.items i.starts i.closes i.journal.items i.stopped in
    of_now g.N.Namer.digest c.args.self.now n (arc_value i.shop).shelves (arc_value i.shop).job.script b c.self.view_is i.lost.items (vec_capacity i.journal)
    (vec_capacity i.lost) i.marker i.ready c.self.invariant c.requires.going c.args.number c.requires.due c.as_slice-losses.result.now
    c.as_slice-losses.ensures.losses ∙ sym (ap (λ s. s.shelves.of) c.deref.ensures)

pub mark_lost-requires-clause-worker : goal.mark_lost-requires-clause-worker
mark_lost-requires-clause-worker g c =
    let i = c.self.inside in
    let n = (arc_value i.shop).namer in
    let b = board_of i.plan (arc_value i.shop).job.script.keys i.main i.ready.table i.orders.items i.starts i.closes i.journal.items i.stopped in
    let r = ap (λ s. length s.shelves.rows) c.deref.ensures in
    let l = shelf_now g.N.Namer.digest c.args.self.now n (arc_value i.shop).shelves (arc_value i.shop).job.script b c.self.view_is i.lost.items (vec_capacity i.journal)
    (vec_capacity i.lost) i.marker i.ready c.self.invariant c.requires.going c.args.number c.requires.due c.as_slice-losses.result.now
    c.as_slice-losses.ensures.losses in
    omega (arith, r, l)

pub close_lost-requires : goal.close_lost-requires
close_lost-requires g c =
    let i = c.self.inside in
    let n = (arc_value i.shop).namer in
    let b = board_of i.plan (arc_value i.shop).job.script.keys i.main i.ready.table i.orders.items i.starts i.closes i.journal.items i.stopped in
    record {
      out = changed_out g.N.Namer.digest c.args.self.now n (arc_value i.shop).shelves (arc_value i.shop).job.script b c.self.view_is i.lost.items (vec_capacity i.journal)
          (vec_capacity i.lost) i.marker i.ready c.self.invariant c.requires.going c.drop_worker.new.self _ c.drop_worker.ensures.dropped;
      one = one_each g.N.Namer.digest c.args.self.now n (arc_value i.shop).shelves (arc_value i.shop).job.script b c.self.view_is i.lost.items (vec_capacity i.journal)
          (vec_capacity i.lost) i.marker i.ready c.self.invariant c.requires.going;
    }

use Rattle.std.proofs.Common.{◌≡◌, Some, map, ap, sym, ◌∙◌, vec_capacity}
use Rattle.std.specs.Arc.{arc_value}
use Rattle.std.specs.Option.{option_map}
use Rattle.ciel_master_board.specs.Board.{find_order}
use Rattle.ciel_master_board.proofs.SoundLemmas.{order_in}
use Rattle.ciel_want_ready.specs.Seen.{ReadySeen, with_table}
use Rattle.ciel_task_order.specs.Views.{P, how_view}
use Rattle.ciel_master.specs.Taking.{table_after}
use Rattle.ciel_master.specs.Seen.{board_of}
use Rattle.ciel_master.specs.Views.{entry_view, kept_view}
use Rattle.ciel_master.proofs.Kept.{accepted_so, closed_ready, closed_table, going_accepted, gone_after, learned_so, marked_now, one_each}
use Rattle.ciel_master.proofs.Kept.{room_written, takes_now, changed_out}
use Rattle.ciel_master.proofs.master.Master.take.Goals as goal

pub take_end-requires : goal.take_end-requires
take_end-requires g c =
    let i = c.self.inside in
    let n = (arc_value i.shop).namer in
    let b = board_of i.plan (arc_value i.shop).job.script.keys i.main i.ready.table i.orders.items i.starts i.closes i.journal.items i.stopped in
    let o = kept_view c.in-Some.order in
    let found : find_order c.args.report.number (map kept_view i.orders.items) ≡ Some o =
    ap (λ xs. find_order c.args.report.number (map kept_view xs)) (sym c.deref.ensures.value)
    ∙ (sym c.find.ensures ∙ ap (option_map kept_view) c.in-Some.is) in
    let k = c.deref-2.result.now.namer in
    let is_k : k ≡ n = ap (λ s. s.namer) c.deref-2.ensures in
    let is_t = ap (λ (r : ReadySeen P). r.table) c.in_ok-learn_for.ensures.learned in
    record {
      few = c.len-room.ensures.few;
      can =
          takes_now g.N.Namer.digest c.args.self.now n (arc_value i.shop).shelves (arc_value i.shop).job.script b c.self.view_is i.lost.items (vec_capacity i.journal)
          (vec_capacity i.lost) i.marker i.ready c.self.invariant c.requires.going c.args.report.number c.args.report.spawned.items
          c.args.report.copied.items c.args.report.end c.requires.fits o found k is_k c.as_slice-2.result.now c.as_slice-2.ensures.value
          c.as_slice-3.result.now c.as_slice-3.ensures.value c.learn_for.new.ready.table is_t c.in_ok-learn_for.ensures.all;
    }

pub invariant_of-self-2 : goal.invariant_of-self-2
invariant_of-self-2 g c =
    let i = c.self.inside in
    let n = (arc_value i.shop).namer in
    let b = board_of i.plan (arc_value i.shop).job.script.keys i.main i.ready.table i.orders.items i.starts i.closes i.journal.items i.stopped in
    let o = kept_view c.in-Some.order in
    let found : find_order c.args.report.number (map kept_view i.orders.items) ≡ Some o =
    ap (λ xs. find_order c.args.report.number (map kept_view xs)) (sym c.deref.ensures.value)
    ∙ (sym c.find.ensures ∙ ap (option_map kept_view) c.in-Some.is) in
    let k = c.deref-2.result.now.namer in
    let is_k : k ≡ n = ap (λ s. s.namer) c.deref-2.ensures in
    let is_t = ap (λ (r : ReadySeen P). r.table) c.in_ok-learn_for.ensures.learned in
    let then = c.take_end.new.ready in
    let last_ready = c.close_order.new.ready in
    let os = map kept_view c.close_order.new.orders.items in
    let is_then = c.in_ok-now.ensures.ready
    ∙ ap (λ (r : ReadySeen P). with_table r (table_after o.task (how_view c.as_slice-3.result.now c.args.report.end)
    c.learn_for.new.ready.table)) c.in_ok-learn_for.ensures.learned in
    let is_u = closed_table g.N.Namer.digest c.args.self.now n (arc_value i.shop).shelves (arc_value i.shop).job.script b c.self.view_is i.lost.items (vec_capacity i.journal)
    (vec_capacity i.lost) i.marker i.ready c.self.invariant c.requires.going then last_ready _ os is_then c.close_order.ensures.ready in
    λ last. (
      going_accepted g.N.Namer.digest c.args.self.now n (arc_value i.shop).shelves (arc_value i.shop).job.script b c.self.view_is i.lost.items (vec_capacity i.journal)
          (vec_capacity i.lost) i.marker i.ready c.self.invariant c.requires.going c.args.report.number c.args.report.spawned.items
          c.args.report.copied.items c.args.report.end c.requires.fits o found k is_k c.as_slice-2.result.now c.as_slice-2.ensures.value
          c.as_slice-3.result.now c.as_slice-3.ensures.value c.learn_for.new.ready.table is_t c.in_ok-learn_for.ensures.all
          c.close_order.new.ready.table (map kept_view c.close_order.new.orders.items) (map entry_view c.take_end.new.journal.items)
          c.is_last-last.result is_u c.close_order.ensures.orders c.in_ok-now.ensures.journal c.as_slice.result.now c.as_slice.ensures.value
          c.is_last-last.ensures,
      gone_after g.N.Namer.digest c.args.self.now n (arc_value i.shop).shelves (arc_value i.shop).job.script b c.self.view_is i.lost.items
          (vec_capacity i.journal) (vec_capacity i.lost) i.marker i.ready c.self.invariant c.requires.going c.args.report.number
          c.args.report.spawned.items c.args.report.copied.items c.args.report.end c.requires.fits o found k is_k c.as_slice-2.result.now
          c.as_slice-2.ensures.value c.as_slice-3.result.now c.as_slice-3.ensures.value c.learn_for.new.ready.table is_t
          c.in_ok-learn_for.ensures.all c.close_order.new.ready.table (map kept_view c.close_order.new.orders.items)
          (map entry_view c.take_end.new.journal.items) c.is_last-last.result is_u c.close_order.ensures.orders c.in_ok-now.ensures.journal
          c.as_slice.result.now c.as_slice.ensures.value c.is_last-last.ensures,
      room_written g.N.Namer.digest c.args.self.now n (arc_value i.shop).shelves (arc_value i.shop).job.script b c.self.view_is i.lost.items (vec_capacity i.journal)
          (vec_capacity i.lost) i.marker i.ready c.self.invariant c.requires.going c.take_end.new.journal.items c.len-room.result
          (vec_capacity c.take_end.new.journal) c.len-room.ensures.len c.in_ok-now.ensures.room,
      marked_now g.N.Namer.digest c.args.self.now n (arc_value i.shop).shelves (arc_value i.shop).job.script b c.self.view_is i.lost.items (vec_capacity i.journal)
          (vec_capacity i.lost) i.marker i.ready c.self.invariant c.requires.going,
      closed_ready g.N.Namer.digest c.args.self.now n (arc_value i.shop).shelves (arc_value i.shop).job.script b c.self.view_is i.lost.items (vec_capacity i.journal)
          (vec_capacity i.lost) i.marker i.ready c.self.invariant c.requires.going then last_ready _ os is_then c.close_order.ensures.ready,
    )

pub returns-clause-accepted : goal.returns-clause-accepted
returns-clause-accepted g c =
    let i = c.self.inside in
    let n = (arc_value i.shop).namer in
    let b = board_of i.plan (arc_value i.shop).job.script.keys i.main i.ready.table i.orders.items i.starts i.closes i.journal.items i.stopped in
    let o = kept_view c.in-Some.order in
    let found : find_order c.args.report.number (map kept_view i.orders.items) ≡ Some o =
    ap (λ xs. find_order c.args.report.number (map kept_view xs)) (sym c.deref.ensures.value)
    ∙ (sym c.find.ensures ∙ ap (option_map kept_view) c.in-Some.is) in
    let k = c.deref-2.result.now.namer in
    let is_k : k ≡ n = ap (λ s. s.namer) c.deref-2.ensures in
    let is_t = ap (λ (r : ReadySeen P). r.table) c.in_ok-learn_for.ensures.learned in
    let then = c.take_end.new.ready in
    let last_ready = c.close_order.new.ready in
    let os = map kept_view c.close_order.new.orders.items in
    let is_then = c.in_ok-now.ensures.ready
    ∙ ap (λ (r : ReadySeen P). with_table r (table_after o.task (how_view c.as_slice-3.result.now c.args.report.end)
    c.learn_for.new.ready.table)) c.in_ok-learn_for.ensures.learned in
    let is_u = closed_table g.N.Namer.digest c.args.self.now n (arc_value i.shop).shelves (arc_value i.shop).job.script b c.self.view_is i.lost.items (vec_capacity i.journal)
    (vec_capacity i.lost) i.marker i.ready c.self.invariant c.requires.going then last_ready _ os is_then c.close_order.ensures.ready in
    accepted_so g.N.Namer.digest c.args.self.now n (arc_value i.shop).shelves (arc_value i.shop).job.script b c.self.view_is i.lost.items (vec_capacity i.journal)
    (vec_capacity i.lost) i.marker i.ready c.self.invariant c.requires.going c.args.report.number c.args.report.spawned.items
    c.args.report.copied.items c.args.report.end c.requires.fits o found k is_k c.as_slice-2.result.now c.as_slice-2.ensures.value
    c.as_slice-3.result.now c.as_slice-3.ensures.value c.learn_for.new.ready.table is_t c.in_ok-learn_for.ensures.all
    c.close_order.new.ready.table (map kept_view c.close_order.new.orders.items) (map entry_view c.take_end.new.journal.items)
    c.is_last-last.result is_u c.close_order.ensures.orders c.in_ok-now.ensures.journal c.as_slice.result.now c.as_slice.ensures.value
    c.is_last-last.ensures

pub returns-clause-learned : goal.returns-clause-learned
returns-clause-learned g c =
    let i = c.self.inside in
    let n = (arc_value i.shop).namer in
    let b = board_of i.plan (arc_value i.shop).job.script.keys i.main i.ready.table i.orders.items i.starts i.closes i.journal.items i.stopped in
    let o = kept_view c.in-Some.order in
    let found : find_order c.args.report.number (map kept_view i.orders.items) ≡ Some o =
    ap (λ xs. find_order c.args.report.number (map kept_view xs)) (sym c.deref.ensures.value)
    ∙ (sym c.find.ensures ∙ ap (option_map kept_view) c.in-Some.is) in
    let k = c.deref-2.result.now.namer in
    let is_k : k ≡ n = ap (λ s. s.namer) c.deref-2.ensures in
    let is_t = ap (λ (r : ReadySeen P). r.table) c.in_ok-learn_for.ensures.learned in
    learned_so g.N.Namer.digest c.args.self.now n (arc_value i.shop).shelves (arc_value i.shop).job.script b c.self.view_is i.lost.items (vec_capacity i.journal)
    (vec_capacity i.lost) i.marker i.ready c.self.invariant c.requires.going c.args.report.number c.args.report.spawned.items
    c.args.report.copied.items c.args.report.end c.requires.fits o found k is_k c.as_slice-2.result.now c.as_slice-2.ensures.value
    c.as_slice-3.result.now c.as_slice-3.ensures.value c.learn_for.new.ready.table is_t c.in_ok-learn_for.ensures.all

pub close_order-requires : goal.close_order-requires
close_order-requires g c =
    let i = c.self.inside in
    let n = (arc_value i.shop).namer in
    let b = board_of i.plan (arc_value i.shop).job.script.keys i.main i.ready.table i.orders.items i.starts i.closes i.journal.items i.stopped in
    let o = kept_view c.in-Some.order in
    let found : find_order c.args.report.number (map kept_view i.orders.items) ≡ Some o =
    ap (λ xs. find_order c.args.report.number (map kept_view xs)) (sym c.deref.ensures.value)
    ∙ (sym c.find.ensures ∙ ap (option_map kept_view) c.in-Some.is) in
    let is_then = c.in_ok-now.ensures.ready
    ∙ ap (λ (r : ReadySeen P). with_table r (table_after o.task (how_view c.as_slice-3.result.now c.args.report.end)
    c.learn_for.new.ready.table)) c.in_ok-learn_for.ensures.learned in
    record {
      out = changed_out g.N.Namer.digest c.args.self.now n (arc_value i.shop).shelves (arc_value i.shop).job.script b c.self.view_is i.lost.items (vec_capacity i.journal)
          (vec_capacity i.lost) i.marker i.ready c.self.invariant c.requires.going c.take_end.new.ready _ is_then;
      one = one_each g.N.Namer.digest c.args.self.now n (arc_value i.shop).shelves (arc_value i.shop).job.script b c.self.view_is i.lost.items (vec_capacity i.journal)
          (vec_capacity i.lost) i.marker i.ready c.self.invariant c.requires.going;
      here = order_in c.args.report.number (map kept_view i.orders.items) o found;
    }

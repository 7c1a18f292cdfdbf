use Rattle.std.proofs.Common.{◌≡◌, ◌∙◌, map, ap, rules, vec_capacity}
use Rattle.std.specs.Arc.{arc_value}
use Rattle.ciel_master_board.specs.Board.{Order, wait_number}
use Rattle.ciel_table.specs.Seen.{TableSeen, last_wait}
use Rattle.ciel_task_order.specs.Views.{P}
use Rattle.ciel_master.specs.Seen.{board_of}
use Rattle.ciel_master.specs.Views.{entry_view, kept_view}
use Rattle.ciel_master.proofs.Kept.{going_started, good_now, gone_started, marked_now, ready_started, room_written}
use Rattle.ciel_master.proofs.master.Master.start.Goals as goal

pub invariant_of-self-2 : goal.invariant_of-self-2
invariant_of-self-2 g c =
    let i = c.self.inside in
    let n = (arc_value i.shop).namer in
    let b = board_of i.plan (arc_value i.shop).job.script.keys i.main i.ready.table i.orders.items i.starts i.closes i.journal.items i.stopped in
    let is_from : c.in_ok-order.order.from ≡ wait_number (last_wait c.args.task.now i.ready.table) =
    ap (λ (z : Order P). z.out.from) c.in_ok-order.ensures.order
    ∙ ap (λ (t : TableSeen P). wait_number (last_wait c.args.task.now t)) c.table.ensures.table in
    λ run. (
      going_started g.N.Namer.digest c.args.self.now n (arc_value i.shop).shelves (arc_value i.shop).job.script b c.self.view_is i.lost.items (vec_capacity i.journal)
          (vec_capacity i.lost) i.marker i.ready c.self.invariant c.requires.going c.args.task.now c.args.worker c.in_ok-order.order.from
          c.requires.runnable c.requires.idle (map kept_view c.begin.new.orders.items) (map entry_view c.begin.new.journal.items) is_from
          c.in_ok-begin.ensures.orders c.in_ok-begin.ensures.journal c.begin.new.ready c.in_ok-begin.ensures.ready,
      gone_started g.N.Namer.digest c.args.self.now n (arc_value i.shop).shelves (arc_value i.shop).job.script b c.self.view_is i.lost.items (vec_capacity i.journal)
          (vec_capacity i.lost) i.marker i.ready c.self.invariant c.requires.going c.args.task.now c.args.worker c.in_ok-order.order.from
          c.requires.runnable c.requires.idle (map kept_view c.begin.new.orders.items) (map entry_view c.begin.new.journal.items) is_from
          c.in_ok-begin.ensures.orders c.in_ok-begin.ensures.journal c.begin.new.ready c.in_ok-begin.ensures.ready,
      room_written g.N.Namer.digest c.args.self.now n (arc_value i.shop).shelves (arc_value i.shop).job.script b c.self.view_is i.lost.items (vec_capacity i.journal)
          (vec_capacity i.lost) i.marker i.ready c.self.invariant c.requires.going c.begin.new.journal.items c.len-room.result
          (vec_capacity c.begin.new.journal) c.len-room.ensures.len c.in_ok-begin.ensures.room,
      marked_now g.N.Namer.digest c.args.self.now n (arc_value i.shop).shelves (arc_value i.shop).job.script b c.self.view_is i.lost.items (vec_capacity i.journal)
          (vec_capacity i.lost) i.marker i.ready c.self.invariant c.requires.going,
      ready_started g.N.Namer.digest c.args.self.now n (arc_value i.shop).shelves (arc_value i.shop).job.script b c.self.view_is i.lost.items (vec_capacity i.journal)
          (vec_capacity i.lost) i.marker i.ready c.self.invariant c.requires.going c.args.task.now c.args.worker c.in_ok-order.order.from
          c.requires.runnable c.requires.idle (map kept_view c.begin.new.orders.items) (map entry_view c.begin.new.journal.items) is_from
          c.in_ok-begin.ensures.orders c.in_ok-begin.ensures.journal c.begin.new.ready c.in_ok-begin.ensures.ready,
    )

pub returns-clause-good : goal.returns-clause-good
returns-clause-good g c =
    let i = c.self.inside in
    let n = (arc_value i.shop).namer in
    let b = board_of i.plan (arc_value i.shop).job.script.keys i.main i.ready.table i.orders.items i.starts i.closes i.journal.items i.stopped in
    good_now g.N.Namer.digest c.args.self.now n (arc_value i.shop).shelves (arc_value i.shop).job.script b c.self.view_is i.lost.items
    (vec_capacity i.journal) (vec_capacity i.lost) i.marker i.ready c.self.invariant c.requires.going c.orders_are_safe.ensures.orders c.args.task.now
    c.args.worker c.requires.runnable c.requires.idle c.in_ok-order.order (search rules)

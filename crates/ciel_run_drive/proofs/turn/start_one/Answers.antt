use Rattle.std.proofs.Common.{ap, subst, ◌∙◌}
use Rattle.ciel_master_board.specs.Board.{board_graph}
use Rattle.ciel_master_board.proofs.SearchResults.{picked_has}
use Rattle.ciel_journal.specs.Graph.{Runnable}
use Rattle.ciel_want.specs.Waited.{tasks_in_order}
use Rattle.ciel_master_board.proofs.DueEvents.{got_in}
use Rattle.ciel_journal.specs.Job.{In}
use Rattle.ciel_run_drive.proofs.Slots.{got_index}
use Rattle.ciel_run_drive.proofs.Names as names
use Rattle.ciel_run_drive.proofs.Turns.{draws_after, picked, start_ends, start_kept}
use Rattle.ciel_master.specs.Seen.{MasterSeen}
use Rattle.ciel_run_drive.proofs.MovedLemmas.{does_start}
use Rattle.ciel_run_drive.proofs.turn.start_one.Goals as goal

pub start_at-requires : goal.start_at-requires
start_at-requires g c =
    let k = c.requires.working in
    let one = c.pick-place.ensures in
    let two = c.pick-worker.ensures in
    record {
      going = k.work.going;
      within = (c.args.count, c.requires.count, one.below);
      idle = subst (In _) c.requires.idle (got_in c.args.idle.now c.pick-worker.result _
          (got_index c.args.idle.now c.pick-worker.result 0 two.below));
    }

pub send_order-requires-clause-going : goal.send_order-requires-clause-going
send_order-requires-clause-going g c =
    let b = c.args.master.now.board in
    let at = c.in-Ok.ensures.task in
    let run = picked_has (Runnable (board_graph b)) (tasks_in_order b.table) at.0 at.1 c.in-Ok.order.task
    (got_in at.0 c.pick-place.result c.in-Ok.order.task at.2) in
    let two = c.pick-worker.ensures in
    let idle = subst (In _) c.requires.idle (got_in c.args.idle.now c.pick-worker.result _ (got_index c.args.idle.now c.pick-worker.result 0 two.below)) in
    let law = c.turns_come_to_an_end.ensures.start in
    names.going_still c.requires.working run idle c.in-Ok.order c.in-Ok.ensures.order law c.in-Ok.ensures.started

pub send_order-requires-clause-out : goal.send_order-requires-clause-out
send_order-requires-clause-out g c =
    let b = c.args.master.now.board in
    let at = c.in-Ok.ensures.task in
    let run = picked_has (Runnable (board_graph b)) (tasks_in_order b.table) at.0 at.1 c.in-Ok.order.task
    (got_in at.0 c.pick-place.result c.in-Ok.order.task at.2) in
    let two = c.pick-worker.ensures in
    let idle = subst (In _) c.requires.idle (got_in c.args.idle.now c.pick-worker.result _ (got_index c.args.idle.now c.pick-worker.result 0 two.below)) in
    let law = c.turns_come_to_an_end.ensures.start in
    names.sent_of c.requires.working run idle c.in-Ok.order c.in-Ok.ensures.order law c.in-Ok.ensures.started

pub send_order-requires-clause-worker : goal.send_order-requires-clause-worker
send_order-requires-clause-worker g c =
    let b = c.args.master.now.board in
    let at = c.in-Ok.ensures.task in
    let run = picked_has (Runnable (board_graph b)) (tasks_in_order b.table) at.0 at.1 c.in-Ok.order.task
    (got_in at.0 c.pick-place.result c.in-Ok.order.task at.2) in
    let two = c.pick-worker.ensures in
    let idle = subst (In _) c.requires.idle (got_in c.args.idle.now c.pick-worker.result _ (got_index c.args.idle.now c.pick-worker.result 0 two.below)) in
    let law = c.turns_come_to_an_end.ensures.start in
    names.send_worker c.requires.working run idle c.in-Ok.order c.in-Ok.ensures.order law

pub send_order-requires-clause-free : goal.send_order-requires-clause-free
send_order-requires-clause-free g c =
    let b = c.args.master.now.board in
    let at = c.in-Ok.ensures.task in
    let run = picked_has (Runnable (board_graph b)) (tasks_in_order b.table) at.0 at.1 c.in-Ok.order.task
    (got_in at.0 c.pick-place.result c.in-Ok.order.task at.2) in
    let two = c.pick-worker.ensures in
    let idle = subst (In _) c.requires.idle (got_in c.args.idle.now c.pick-worker.result _ (got_index c.args.idle.now c.pick-worker.result 0 two.below)) in
    let law = c.turns_come_to_an_end.ensures.start in
    names.send_free c.requires.working run idle c.in-Ok.order c.in-Ok.ensures.order law

pub send_order-requires-clause-takes : goal.send_order-requires-clause-takes
send_order-requires-clause-takes g c =
    let b = c.args.master.now.board in
    let at = c.in-Ok.ensures.task in
    let run = picked_has (Runnable (board_graph b)) (tasks_in_order b.table) at.0 at.1 c.in-Ok.order.task
    (got_in at.0 c.pick-place.result c.in-Ok.order.task at.2) in
    let two = c.pick-worker.ensures in
    let idle = subst (In _) c.requires.idle (got_in c.args.idle.now c.pick-worker.result _ (got_index c.args.idle.now c.pick-worker.result 0 two.below)) in
    let law = c.turns_come_to_an_end.ensures.start in
    names.send_takes c.requires.working run idle c.in-Ok.order c.in-Ok.ensures.order law c.orders_are_safe.ensures.orders

pub returns-in-Ok-send_order-clause-working : goal.returns-in-Ok-send_order-clause-working
returns-in-Ok-send_order-clause-working g c =
    let b = c.args.master.now.board in
    let at = c.in-Ok.ensures.task in
    let run = picked_has (Runnable (board_graph b)) (tasks_in_order b.table) at.0 at.1 c.in-Ok.order.task
    (got_in at.0 c.pick-place.result c.in-Ok.order.task at.2) in
    let two = c.pick-worker.ensures in
    let idle = subst (In _) c.requires.idle (got_in c.args.idle.now c.pick-worker.result _ (got_index c.args.idle.now c.pick-worker.result 0 two.below)) in
    let law = c.turns_come_to_an_end.ensures.start in
    names.start_kept c.requires.working run idle c.in-Ok.order c.in-Ok.ensures.order law (c.send_order.ensures.master ∙ c.in-Ok.ensures.started) c.in-Ok-send_order.ensures.out
    c.orders_are_safe.ensures.orders c.send_order.ensures.shop c.in-Ok-send_order.ensures.sound

pub returns-in-Ok-send_order-clause-model : goal.returns-in-Ok-send_order-clause-model
returns-in-Ok-send_order-clause-model g c k =
    let one = c.pick-place.ensures in
    let two = c.pick-worker.ensures in
    let p = picked c.args.master.now.board k.draws one.state two.state c.requires.count c.requires.quiet c.in-Ok.ensures.task c.requires.idle one.pick two.pick two.below in
    start_kept c.requires.working k p (c.send_order.ensures.master ∙ c.in-Ok.ensures.started) c.in-Ok.order c.in-Ok.ensures.order
    c.in-Ok-send_order.ensures.out c.send_order.ensures.shop (draws_after c.args.master.now.board k.draws one.state two.state)

pub returns-in-Ok-send_order-clause-less : goal.returns-in-Ok-send_order-clause-less
returns-in-Ok-send_order-clause-less g c =
    let b = c.args.master.now.board in
    let at = c.in-Ok.ensures.task in
    let run = picked_has (Runnable (board_graph b)) (tasks_in_order b.table) at.0 at.1 c.in-Ok.order.task
    (got_in at.0 c.pick-place.result c.in-Ok.order.task at.2) in
    let two = c.pick-worker.ensures in
    let idle = subst (In _) c.requires.idle (got_in c.args.idle.now c.pick-worker.result _ (got_index c.args.idle.now c.pick-worker.result 0 two.below)) in
    let law = c.turns_come_to_an_end.ensures.start in
    names.start_less c.requires.working run idle c.in-Ok.order c.in-Ok.ensures.order law (c.send_order.ensures.master ∙ c.in-Ok.ensures.started) c.in-Ok-send_order.ensures.out

pub returns-in-Ok-send_order-clause-told : goal.returns-in-Ok-send_order-clause-told
returns-in-Ok-send_order-clause-told g c =
    let b = c.args.master.now.board in
    let at = c.in-Ok.ensures.task in
    let run = picked_has (Runnable (board_graph b)) (tasks_in_order b.table) at.0 at.1 c.in-Ok.order.task
    (got_in at.0 c.pick-place.result c.in-Ok.order.task at.2) in
    let two = c.pick-worker.ensures in
    let idle = subst (In _) c.requires.idle (got_in c.args.idle.now c.pick-worker.result _ (got_index c.args.idle.now c.pick-worker.result 0 two.below)) in
    let law = c.turns_come_to_an_end.ensures.start in
    names.start_told c.requires.working run idle c.in-Ok.order c.in-Ok.ensures.order law
    (c.send_order.ensures.master ∙ c.in-Ok.ensures.started) (g.C.Crew.told c.args.crew.now)
    (g.C.Crew.told c.send_order.new.crew) c.in-Ok-send_order.ensures.told

pub returns-in-Err-send_order-clause-end : goal.returns-in-Err-send_order-clause-end
returns-in-Err-send_order-clause-end g c k =
    let one = c.pick-place.ensures in
    let two = c.pick-worker.ensures in
    let p = picked c.args.master.now.board k.draws one.state two.state c.requires.count c.requires.quiet c.in-Ok.ensures.task c.requires.idle one.pick two.pick two.below in
    start_ends c.requires.working k p (c.send_order.ensures.master ∙ c.in-Ok.ensures.started)

pub returns-in-Ok-send_order-clause-does : goal.returns-in-Ok-send_order-clause-does
returns-in-Ok-send_order-clause-does g c =
    does_start g.K.Kit.gives g.N.Namer.digest (g.C.Crew.shop c.args.crew.now) _ g.C.Crew.goes (g.C.Crew.record_of c.args.crew.now)
    (g.C.Crew.record_of c.send_order.new.crew) c.args.master.now.board c.in-Ok.order.task _ c.in-Ok.order c.send_order.new.master.board
    c.in-Ok.ensures.order (ap (λ (m : MasterSeen _). m.board) (c.send_order.ensures.master ∙ c.in-Ok.ensures.started)) c.in-Ok-send_order.ensures.goes

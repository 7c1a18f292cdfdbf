use Rattle.std.proofs.Common.{◌≡◌, ap, sym, subst, slice_index_or}
use Rattle.ciel_journal.specs.Job.{In}
use Rattle.ciel_master_board.specs.Board as board
use Rattle.ciel_master_board.specs.Driving.{Picked}
use Rattle.ciel_master_board.specs.Moves.{order_for, started}
use Rattle.ciel_master_board.proofs.DueEvents.{got_in}
use Rattle.ciel_master_law.specs.Ends.{worker_of}
use Rattle.ciel_run_drive.proofs.Slots.{got_index}
use Rattle.ciel_run_drive.proofs.Turns.{draws_after, picked}
use Rattle.ciel_task_order.specs.Views.{P, order_view}
use Rattle.ciel_log_replay.proofs.starts.start_drawn.Goals as goal

pub start_at-requires : goal.start_at-requires
start_at-requires g c =
    let one = c.pick-place.ensures in
    let two = c.pick-worker.ensures in
    record {
      going = c.requires.going;
      within = (c.args.count, c.requires.count, one.below);
      idle = subst (In _) c.requires.idle (got_in c.args.idle.now c.pick-worker.result _
          (got_index c.args.idle.now c.pick-worker.result 0 two.below));
    }

pub returns-clause-picked : goal.returns-clause-picked
returns-clause-picked g c =
    let one = c.pick-place.ensures in
    let two = c.pick-worker.ensures in
    let order = c.in_ok-order.order in
    let worker : order.worker ≡ slice_index_or c.args.idle.now c.pick-worker.result 0 =
    ap (λ (z : board.Order P). z.out.worker) c.in_ok-order.ensures.order in
    subst (Picked c.args.master.now.board order.task) (sym worker)
    (picked c.args.master.now.board c.requires.draws one.state two.state c.requires.count c.requires.quiet c.in_ok-order.ensures.task c.requires.idle one.pick
    two.pick two.below)

pub returns-clause-order : goal.returns-clause-order
returns-clause-order g c =
    let order = c.in_ok-order.order in
    let worker : order.worker ≡ slice_index_or c.args.idle.now c.pick-worker.result 0 =
    ap (λ (z : board.Order P). z.out.worker) c.in_ok-order.ensures.order in
    subst (λ n. order_view order ≡ order_for worker_of c.args.master.now.board order.task n) (sym worker) c.in_ok-order.ensures.order

pub returns-clause-started : goal.returns-clause-started
returns-clause-started g c =
    let m = c.args.master.now in
    let order = c.in_ok-order.order in
    let worker : order.worker ≡ slice_index_or c.args.idle.now c.pick-worker.result 0 =
    ap (λ (z : board.Order P). z.out.worker) c.in_ok-order.ensures.order in
    subst (λ n. c.start_at.new.master ≡ record m { board = started worker_of m.board order.task n }) (sym worker) c.in_ok-order.ensures.started

pub returns-clause-draws : goal.returns-clause-draws
returns-clause-draws g c =
    draws_after c.args.master.now.board c.requires.draws c.pick-place.ensures.state c.pick-worker.ensures.state

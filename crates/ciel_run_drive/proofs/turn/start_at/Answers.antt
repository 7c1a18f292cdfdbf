use Rattle.std.proofs.Common.{◌≡◌, ap, sym, subst, ◌∙◌}
use Rattle.ciel_master_board.specs.Board.{Order, board_graph, idle_of}
use Rattle.ciel_master_board.specs.Moves.{order_for, started}
use Rattle.ciel_master_board.proofs.DueEvents.{got_in}
use Rattle.ciel_master_board.proofs.SearchResults.{picked_has}
use Rattle.ciel_master_law.specs.Ends.{worker_of}
use Rattle.ciel_journal.specs.Graph.{Runnable}
use Rattle.ciel_journal.specs.Job.{In}
use Rattle.ciel_master.specs.Orders.{ready_of}
use Rattle.ciel_master.specs.Seen.{MasterSeen}
use Rattle.ciel_want_ready.specs.Seen.{CanRunAt}
use Rattle.ciel_task_order.specs.Views.{P}
use Rattle.ciel_want.specs.Waited.{tasks_in_order}
use Rattle.ciel_run_drive.proofs.turn.start_at.Goals as goal

pub start-requires-clause-runnable : goal.start-requires-clause-runnable
start-requires-clause-runnable g c =
    let b = c.args.master.now.board in
    let x = c.in_ok-task.task in
    let at = c.in_ok-task.ensures.task in
    subst (λ (m : MasterSeen _). Runnable (board_graph m.board) x) (sym c.nth.ensures.same)
    (picked_has (Runnable (board_graph b)) (tasks_in_order b.table) at.0 at.1 x (got_in at.0 c.args.place x at.2))

pub start-requires-clause-idle : goal.start-requires-clause-idle
start-requires-clause-idle g c =
    subst (λ (m : MasterSeen _). In c.args.worker (idle_of m.board)) (sym c.nth.ensures.same) c.requires.idle

pub returns-clause-task : goal.returns-clause-task
returns-clause-task g c =
    let b = c.args.master.now.board in
    let order = c.in_ok-order.order in
    let same = c.nth.ensures.same in
    let task_is : order.task ≡ c.in_ok-task.task = ap (λ (z : Order P). z.out.task) c.in_ok-order.ensures.order in
    subst (CanRunAt (ready_of b) c.args.place) (sym task_is) c.in_ok-task.ensures.task

pub returns-clause-order : goal.returns-clause-order
returns-clause-order g c =
    let b = c.args.master.now.board in
    let order = c.in_ok-order.order in
    let x = c.in_ok-task.task in
    let same = c.nth.ensures.same in
    let task_is : order.task ≡ x = ap (λ (z : Order P). z.out.task) c.in_ok-order.ensures.order in
    c.in_ok-order.ensures.order
    ∙ (ap (λ (m : MasterSeen _). order_for worker_of m.board x c.args.worker) same ∙ ap (λ t. order_for worker_of b t c.args.worker) (sym task_is))

pub returns-clause-started : goal.returns-clause-started
returns-clause-started g c =
    let m = c.args.master.now in
    let order = c.in_ok-order.order in
    let x = c.in_ok-task.task in
    let same = c.nth.ensures.same in
    let task_is : order.task ≡ x = ap (λ (z : Order P). z.out.task) c.in_ok-order.ensures.order in
    c.in_ok-order.ensures.started
    ∙ (ap (λ (z : MasterSeen _). record z { board = started worker_of z.board x c.args.worker }) same
    ∙ ap (λ t. record m { board = started worker_of m.board t c.args.worker }) (sym task_is))

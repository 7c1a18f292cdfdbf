use Rattle.std.proofs.Common.{◌≡◌, map, filter, not, Some, ap, sym, ◌∙◌}
use Rattle.std.specs.Option.{option_map}
use Rattle.ciel_master_board.specs.Board.{tasks_out}
use Rattle.ciel_want.specs.Waited.{same_id}
use Rattle.ciel_master.specs.Orders.{worker_order}
use Rattle.ciel_master.specs.Views.{kept_view}
use Rattle.ciel_master.proofs.Stays.{lost_tasks, none_lost, worker_in}
use Rattle.ciel_master.proofs.closing.close_lost.Goals as goal

pub returns-in-Some-clause-ready : goal.returns-in-Some-clause-ready
returns-in-Some-clause-ready c =
    let r = c.args.ready.now in
    let x = kept_view c.in-Some.order in
    let os = map kept_view c.args.orders.now.items in
    let found : worker_order c.args.worker os ≡ Some x = ap (λ xs. worker_order c.args.worker (map kept_view xs)) (sym c.deref.ensures.value)
    ∙ (sym c.find_at.ensures ∙ ap (option_map kept_view) c.in-Some.is) in
    let at = worker_in c.args.worker os x found in
    c.close.ensures.closed
    ∙ ap (λ ts. record r { out = ts }) (ap (filter (λ z. not (same_id x.task z))) c.requires.out
    ∙ (lost_tasks os c.requires.one x at.0 c.args.worker at.1 ∙ ap tasks_out (sym c.close_at.ensures)))

pub returns-in_default-clause-orders : goal.returns-in_default-clause-orders
returns-in_default-clause-orders c =
    let os = map kept_view c.args.orders.now.items in
    sym (none_lost c.args.worker os (ap (λ xs. worker_order c.args.worker (map kept_view xs)) (sym c.deref.ensures.value)
    ∙ (sym c.find_at.ensures ∙ ap (option_map kept_view) c.in_default.is)))

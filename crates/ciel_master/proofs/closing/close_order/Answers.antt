use Rattle.std.proofs.Common.{map, filter, not, ap, sym, ◌∙◌}
use Rattle.ciel_master_board.specs.Board.{tasks_out}
use Rattle.ciel_want.specs.Waited.{same_id}
use Rattle.ciel_master.specs.Views.{kept_view}
use Rattle.ciel_master.proofs.Stays.{closed_tasks}
use Rattle.ciel_master.proofs.closing.close_order.Goals as goal

pub returns-clause-ready : goal.returns-clause-ready
returns-clause-ready c =
    let r = c.args.ready.now in
    let x = kept_view c.args.order.now in
    let os = map kept_view c.args.orders.now.items in
    c.close-2.ensures.closed
    ∙ ap (λ ts. record r { out = ts }) (ap (filter (λ z. not (same_id x.task z))) c.requires.out
    ∙ (closed_tasks os c.requires.one x c.requires.here ∙ ap tasks_out (sym c.close.ensures)))

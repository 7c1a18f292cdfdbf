use Rattle.std.proofs.Common.{◌∙◌, ap, map, sym}
use Rattle.ciel_master_board.specs.Board.{spot_of}
use Rattle.ciel_task_order.specs.Views.{brought_view}
use Rattle.ciel_log_fits.proofs.Places.{elsewhere, unequal}
use Rattle.ciel_log_fits.proofs.given.is_elsewhere.Goals as goal

pub returns-in-Some-clause-yes : goal.returns-in-Some-clause-yes
returns-in-Some-clause-yes c = λ t.
    let order = c.args.order.now in
    let place = c.in-Some.place.now in
    elsewhere order c.args.name.now place
    (ap (λ hs. spot_of c.args.name.now (map brought_view hs)) (sym c.as_slice.ensures.value) ∙ c.in-Some.ensures)
    (unequal c.worker.result order.worker place.worker c.worker.ensures.worker t)

-- One order more is looked at.
use Rattle.std.proofs.Common.{◌≤◌, ap, arith, length, ◌∙◌}
use Rattle.std.proofs.lemmas.List.{length-map, take_all}
use Rattle.ciel_look_tasks.specs.Orders.{cut}
use Rattle.ciel_look_tasks.specs.View.{order_ends, orders_view}
use Rattle.ciel_look_tasks.specs.CutPlaces.{out_places}
use Rattle.ciel_look_tasks.proofs.CutSteps.{out_more}
use Rattle.ciel_look_tasks.proofs.OrderPlaces.{so_all}
use Rattle.ciel_look_tasks.proofs.starts.Starts.cut.Goals as goal

pub loop-run-preserved : goal.loop-run-preserved
loop-run-preserved c =
    let l = c.loop-run in
    record {
      starts = c.cut_at.ensures.starts ∙ l.invariant.starts;
      took = c.cut_at.ensures.took ∙ l.invariant.took;
      made = c.cut_at.ensures.made ∙ l.invariant.made;
      places = out_more c.args.worker (orders_view c.args.self.now.runs.items) l.run l.runs.items _ l.invariant.places
          (c.in_ok-cut_at.ensures.places (orders_view c.args.self.now.runs.items) l.invariant.orders);
      agains = c.cut_at.ensures.agains ∙ l.invariant.agains;
      orders = c.in_ok-cut_at.ensures.orders (orders_view c.args.self.now.runs.items) l.invariant.orders;
    }

pub returns-clause-orders : goal.returns-clause-orders
returns-clause-orders c =
    let l = c.loop-run in
    let rs = c.args.self.now.runs in
    let all : length (orders_view rs.items) ≤ l.run = omega (arith, length-map rs.items order_ends, c.len-run-end.ensures, rs.ok.0) in
    l.invariant.orders ∙ so_all (cut c.args.worker) (orders_view rs.items) l.run all

pub returns-clause-places : goal.returns-clause-places
returns-clause-places c =
    let l = c.loop-run in
    let rs = c.args.self.now.runs in
    let all : length (orders_view rs.items) ≤ l.run = omega (arith, length-map rs.items order_ends, c.len-run-end.ensures, rs.ok.0) in
    l.invariant.places ∙ ap (out_places c.args.worker 0) (take_all l.run (orders_view rs.items) all)

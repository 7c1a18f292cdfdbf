-- The starts stay; those that were looked at and are out at the worker end with it.
use Rattle.std.proofs.Common.{◌≡◌, take}
use Rattle.ciel_look_tasks.specs.CutPlaces.{out_places}
use Rattle.ciel_look_tasks.specs.Orders.{cut_so_far}
use Rattle.ciel_look_tasks.specs.ReportView.{makes_view, takes_view}
use Rattle.ciel_look_tasks.specs.View.{agains_view, orders_view, starts_view}
use Rattle.ciel_look_tasks.proofs.starts.Starts.cut.Given as goal

abbrev pub invariant-loop-run : goal.invariant-loop-run
invariant-loop-run l =
    record {
      starts : starts_view l.self.runs.items ≡ starts_view l.fn.self.runs.items;
      agains : agains_view l.self.runs.items ≡ agains_view l.fn.self.runs.items;
      took : takes_view l.self.runs.items ≡ takes_view l.fn.self.runs.items;
      made : makes_view l.self.runs.items ≡ makes_view l.fn.self.runs.items;
      places : l.runs.items ≡ out_places l.worker 0 (take l.run (orders_view l.fn.self.runs.items));
      orders : orders_view l.self.runs.items ≡ cut_so_far l.worker l.run (orders_view l.fn.self.runs.items);
    }

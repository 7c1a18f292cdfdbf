-- The places so far.
use Rattle.std.proofs.Common.{◌≡◌, take}
use Rattle.ciel_look_tasks.specs.Rows.{AreFiled}
use Rattle.ciel_look_tasks.specs.StackPlaces.{places_where}
use Rattle.ciel_look_tasks.specs.Stacks.{has_stack}
use Rattle.ciel_look_tasks.specs.View.{ids, orders_view, rows, starts_view}
use Rattle.ciel_look_tasks.proofs.make.stacks_at.Given as goal

abbrev pub invariant-loop-place : goal.invariant-loop-place
invariant-loop-place l =
    record {
      places : AreFiled (rows l.roll.tasks.items) (starts_view l.runs)
          → l.stacks.items ≡ places_where (has_stack l.worker (orders_view l.runs)) 0 (take l.place (ids l.roll.tasks.items));
    }

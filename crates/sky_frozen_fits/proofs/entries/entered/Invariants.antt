-- All entries fit exactly where those that are left do.
use Rattle.std.proofs.Common.{length}
use Rattle.sky_state.specs.StandView.{todos_view, stack_view}
use Rattle.sky_frozen_fits.specs.Entered.{Entered}
use Rattle.sky_frozen_fits.proofs.entries.entered.Given as goal

abbrev pub invariant-loop-todo : goal.invariant-loop-todo
invariant-loop-todo l = record {
  all : Entered l.code (todos_view l.rest) (stack_view l.left) → Entered l.code (todos_view l.todos) (stack_view l.values);
  left : Entered l.code (todos_view l.todos) (stack_view l.values) → Entered l.code (todos_view l.rest) (stack_view l.left);
}

abbrev pub decreases-loop-todo : goal.decreases-loop-todo
decreases-loop-todo l = length l.rest

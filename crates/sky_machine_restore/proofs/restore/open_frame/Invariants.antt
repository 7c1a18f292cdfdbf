-- The forms so far, with those of the entries that are left, are all of the frame's; what is left is as the table says.
use Rattle.std.proofs.Common.{◌≡◌, [], List, Option, Some, IsSome, length}
use Rattle.sky_base.specs.Kept.{Kept}
use Rattle.sky_base_law.specs.Tasks.{Each}
use Rattle.sky_machine_entries.specs.Entries.{Form, forms}
use Rattle.sky_machine_entries.specs.Ready.{AllReady}
use Rattle.sky_state.specs.Table.{IsStep}
use Rattle.sky_state.specs.Fits.{row_of, kept_in_all}
use Rattle.sky_state.specs.StandView.{todos_view, stack_view, frames_view}
use Rattle.sky_machine_restore.specs.Restoring.{call_above, todo_forms, after_these}
use Rattle.sky_machine_restore.proofs.restore.open_frame.Given as goal

abbrev pub invariant-loop-todo : goal.invariant-loop-todo
invariant-loop-todo l = record {
  steps : Each (λ t. IsStep (row_of l.code t)) (todos_view l.rest);
  as_many : length l.values ≡ kept_in_all l.code (todos_view l.rest);
  kept : Each Kept (stack_view l.values);
  opens : IsSome (todo_forms l.code (call_above l.frame.vars (frames_view l.above)) (todos_view l.rest) (stack_view l.values) (Some []));
  same : (more : Option (List Form)) → after_these (forms l.fn.entries.items)
      (todo_forms l.code (call_above l.frame.vars (frames_view l.above)) l.frame.todo l.frame.stack more)
      ≡ after_these (forms l.entries.items) (todo_forms l.code (call_above l.frame.vars (frames_view l.above)) (todos_view l.rest)
      (stack_view l.values) more);
  ready : AllReady l.code l.entries.items;
}

abbrev pub decreases-loop-todo : goal.decreases-loop-todo
decreases-loop-todo l = length l.rest

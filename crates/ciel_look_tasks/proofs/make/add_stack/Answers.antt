-- The place is put, or nothing.
use Rattle.std.proofs.Common.{sym, ◌∙◌}
use Rattle.ciel_look_tasks.specs.Stacks.{has_stack}
use Rattle.ciel_look_tasks.specs.View.{ids, orders_view}
use Rattle.ciel_look_tasks.proofs.StackSteps.{put_not, put_passes}
use Rattle.ciel_look_tasks.proofs.make.add_stack.Goals as goal

pub returns-then-has_stack_at : goal.returns-then-has_stack_at
returns-then-has_stack_at c =
    record {
      places = λ f. put_passes (has_stack c.args.worker (orders_view c.args.runs.now)) (ids c.args.roll.now.tasks.items) c.args.place c.args.stacks.now.items _
          (sym (c.has_stack_at.ensures f) ∙ c.if-has_stack_at.true) c.in_ok-push.ensures.pushed;
    }

pub returns : goal.returns
returns c =
    record {
      places = λ f. put_not (has_stack c.args.worker (orders_view c.args.runs.now)) (ids c.args.roll.now.tasks.items) c.args.place c.args.stacks.now.items
          (sym (c.has_stack_at.ensures f) ∙ c.if-has_stack_at.false);
    }

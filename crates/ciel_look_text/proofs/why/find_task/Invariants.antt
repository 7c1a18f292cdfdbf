-- None of the tasks so far is the one.
use Rattle.ciel_look_tasks.specs.View.{ids}
use Rattle.ciel_look_text.specs.Asked.{first_asked}
use Rattle.ciel_look_text.proofs.Going.{Same}
use Rattle.ciel_look_text.proofs.why.find_task.Given as goal

abbrev pub invariant-loop-task : goal.invariant-loop-task
invariant-loop-task l =
    Same (λ ts. first_asked l.digits (ids ts)) l.tasks l.task-index

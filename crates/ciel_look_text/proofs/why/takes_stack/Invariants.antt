-- The task is none of those so far.
use Rattle.std.specs.List.{list_any}
use Rattle.ciel_look_tasks.specs.SceneView.{picked}
use Rattle.ciel_look_tasks.specs.Tasks.{same_task}
use Rattle.ciel_look_tasks.specs.View.{ids}
use Rattle.ciel_look_text.proofs.Going.{Same}
use Rattle.ciel_look_text.proofs.why.takes_stack.Given as goal

abbrev pub invariant-loop-place : goal.invariant-loop-place
invariant-loop-place l =
    Same (λ ps. list_any (same_task l.id) (ids (picked l.scene.roll.tasks.items ps))) l.places l.place-index

-- None of those so far is of the task.
use Rattle.std.proofs.Common.{map}
use Rattle.ciel_look_tasks.specs.SceneView.{picked}
use Rattle.ciel_look_tasks.specs.View.{start_view}
use Rattle.ciel_look_text.specs.Why.{cut_start}
use Rattle.ciel_look_text.proofs.Going.{Same}
use Rattle.ciel_look_text.proofs.why.cut_of.Given as goal

abbrev pub invariant-loop-place : goal.invariant-loop-place
invariant-loop-place l =
    Same (λ ps. cut_start l.id (map start_view (picked l.scene.runs.items ps))) l.places l.place-index

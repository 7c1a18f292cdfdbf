-- What is left of the tasks.
use Rattle.std.proofs.Common.{◌≡◌, ◌++◌, drop}
use Rattle.ciel_look_tasks.specs.Known.{knowns}
use Rattle.ciel_look_tasks.specs.SceneView.{row_view}
use Rattle.ciel_look_text.specs.Text.{task_line}
use Rattle.ciel_look_text.proofs.Lines.{LinesLeft}
use Rattle.ciel_look_text.proofs.text.put_tasks.Given as goal

abbrev pub invariant-loop-task : goal.invariant-loop-task
invariant-loop-task l =
    LinesLeft (row_view l.scene) (task_line (knowns l.scene.known.all.items)) l.initial.lines l.tasks l.lines l.task-index

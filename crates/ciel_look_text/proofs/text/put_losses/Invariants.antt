-- What is left of the losses.
use Rattle.ciel_look_tasks.specs.Known.{knowns}
use Rattle.ciel_look_tasks.specs.SceneView.{taken_view}
use Rattle.ciel_look_text.specs.Text.{loss_line}
use Rattle.ciel_look_text.proofs.Lines.{LinesLeft}
use Rattle.ciel_look_text.proofs.text.put_losses.Given as goal

abbrev pub invariant-loop-loss : goal.invariant-loop-loss
invariant-loop-loss l =
    LinesLeft (taken_view l.scene) (loss_line (knowns l.scene.known.all.items)) l.initial.lines l.losses l.lines l.loss-index

-- What happened so far is told.
use Rattle.ciel_look_tasks.specs.SceneView.{scene_view}
use Rattle.ciel_look_text.specs.Replays.{event_view, stand_of}
use Rattle.ciel_look_text.proofs.Telling.{Told}
use Rattle.ciel_look_text.proofs.why.why_task.Given as goal

abbrev pub invariant-loop-place : goal.invariant-loop-place
invariant-loop-place l =
    Told (scene_view l.scene) l.id (event_view l.scene) l.scene.happened.items l.place (stand_of l.scene l.replay) l.lines

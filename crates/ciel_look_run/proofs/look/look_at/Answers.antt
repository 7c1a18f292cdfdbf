-- Where there is a story, what is written says how it ends; else nothing is written.
use Rattle.std.proofs.Common.{◌≡◌}
use Rattle.ciel_look_tasks.specs.Seen.{IsSeenOf}
use Rattle.ciel_look_tasks.specs.Tasks.{tasks}
use Rattle.ciel_look_tasks.specs.SceneView.{scene_view}
use Rattle.ciel_look_tasks.specs.View.{ids}
use Rattle.ciel_look_run.specs.View.{asked_view}
use Rattle.ciel_look_run.proofs.SceneParts.{ids_told}
use Rattle.ciel_look_run.proofs.EndLemmas.{story_so, unwritten, written, wrote_told}
use Rattle.ciel_look_run.proofs.look.look_at.Goals as goal

pub returns-in-Ok-clause-because : goal.returns-in-Ok-clause-because
returns-in-Ok-clause-because g c =
    let s = c.in-Ok.scene in
    let content = g.F.Files.content c.args.files.now c.args.line.now.log in
    written content _ _ c.args.line.now.log (asked_view c.args.line.now.asked) (ids s.roll.tasks.items)
    (story_so content (λ head ts. IsSeenOf head ts (scene_view s)) (λ head ts. ids s.roll.tasks.items ≡ tasks ts) c.in-Ok.ensures.story
    (ids_told s)) c.write.result c.write.ensures.ends

pub returns-in-Ok-clause-wrote : goal.returns-in-Ok-clause-wrote
returns-in-Ok-clause-wrote g c =
    wrote_told _ _ _ _ (g.F.Files.content c.args.files.now c.args.line.now.log) (scene_view c.in-Ok.scene) (asked_view c.args.line.now.asked)
    c.write.result c.in-Ok.ensures.story c.write.ensures.wrote

pub returns-in-Err-clause-because : goal.returns-in-Err-clause-because
returns-in-Err-clause-because g c = c.in-Err.ensures.refused (asked_view c.args.line.now.asked)

pub returns-in-Err-clause-wrote : goal.returns-in-Err-clause-wrote
returns-in-Err-clause-wrote g c = unwritten _ _ _ (asked_view c.args.line.now.asked) c.in-Err.why c.in-Err.ensures.unwritten

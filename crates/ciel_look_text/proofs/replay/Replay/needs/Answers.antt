-- At its last wait, or from the first on.
use Rattle.std.proofs.Common.{ap, sym, ◌∙◌}
use Rattle.ciel_look_tasks.specs.SceneView.{scene_view}
use Rattle.ciel_look_text.specs.Now.{at_first, waits_or}
use Rattle.ciel_look_text.proofs.replay.Replay.needs.Goals as goal

pub returns-in_ok-names-in-Some : goal.returns-in_ok-names-in-Some
returns-in_ok-names-in-Some c =
    record { names = c.in_ok-names-in-Some.ensures.names ∙ ap (λ o. waits_or o (at_first (scene_view c.args.scene.now) c.args.id.now)) c.in-Some.ensures.last }

pub returns-in_ok-names-in-None : goal.returns-in_ok-names-in-None
returns-in_ok-names-in-None c =
    record { names = c.in_ok-names-in-None.ensures.names ∙ ap (λ o. waits_or o (at_first (scene_view c.args.scene.now) c.args.id.now)) c.in-None.ensures.last }

-- The main call, or what it is given.
use Rattle.std.proofs.Common.{ap, sym, ◌∙◌}
use Rattle.ciel_look_tasks.specs.SceneView.{scene_view}
use Rattle.ciel_look_text.specs.Now.{at_first, desc_in, given_names}
use Rattle.ciel_look_text.proofs.replay.at_first.Goals as goal

pub returns-in_ok-names-in-Show : goal.returns-in_ok-names-in-Show
returns-in_ok-names-in-Show c =
    record { names = c.in_ok-names-in-Show.ensures.names ∙ ap (at_first (scene_view c.args.scene.now)) (sym c.in-Show.is) }

pub returns-in_ok-names-in-Of : goal.returns-in_ok-names-in-Of
returns-in_ok-names-in-Of c =
    let s = scene_view c.args.scene.now in
    record {
      names = c.in_ok-names-in-Of.ensures.names ∙ ap (λ t. given_names (desc_in t s.rows)) c.in-Of.is ∙ ap (at_first s) (sym c.in-Of.is);
    }

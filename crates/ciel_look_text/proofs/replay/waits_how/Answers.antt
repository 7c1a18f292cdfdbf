-- As its report tells.
use Rattle.std.proofs.Common.{ap, sym, ◌∙◌}
use Rattle.ciel_look_tasks.specs.SceneView.{how_view}
use Rattle.ciel_look_text.specs.Now.{waits}
use Rattle.ciel_look_text.proofs.replay.waits_how.Goals as goal

pub returns-in_ok-names-in-Told : goal.returns-in_ok-names-in-Told
returns-in_ok-names-in-Told c = record { names = c.in_ok-names-in-Told.ensures.names ∙ ap (λ h. waits (how_view h)) (sym c.in-Told.is) }

pub returns-in-Lost : goal.returns-in-Lost
returns-in-Lost c = record { names = c.new.ensures.items ∙ ap (λ h. waits (how_view h)) (sym c.in-Lost.is) }

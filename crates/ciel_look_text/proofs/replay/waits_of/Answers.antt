-- Of its end.
use Rattle.std.proofs.Common.{ap, sym, ◌∙◌}
use Rattle.ciel_look_tasks.specs.SceneView.{end_view}
use Rattle.ciel_look_text.specs.Now.{waits}
use Rattle.ciel_look_text.proofs.replay.waits_of.Goals as goal

pub returns-in_ok-names-in-Some : goal.returns-in_ok-names-in-Some
returns-in_ok-names-in-Some c = record { names = c.in_ok-names-in-Some.ensures.names ∙ ap (λ e. waits (end_view e)) (sym c.in-Some.is) }

pub returns-in-None : goal.returns-in-None
returns-in-None c = record { names = c.new.ensures.items ∙ ap (λ e. waits (end_view e)) (sym c.in-None.is) }

-- The task at the place.
use Rattle.std.proofs.Common.{Some, None, ap, slice_get, ◌∙◌}
use Rattle.ciel_look_tasks.proofs.KnownSteps.{get_is}
use Rattle.ciel_look_text.specs.Now.{given_names}
use Rattle.ciel_look_text.specs.Replays.{desc_at}
use Rattle.ciel_look_text.proofs.replay.given_at.Goals as goal

pub returns-in_ok-names-in-Some : goal.returns-in_ok-names-in-Some
returns-in_ok-names-in-Some c =
    let there = get_is c.deref.result.now c.args.place (Some c.in-Some.task) c.in-Some.ensures.lookup
    ∙ ap (λ ts. slice_get ts c.args.place) c.deref.ensures.value in
    record { names = c.in_ok-names-in-Some.ensures.names ∙ ap (λ o. given_names (desc_at c.args.scene.now o)) there }

pub returns-in-None : goal.returns-in-None
returns-in-None c =
    let there = get_is c.deref.result.now c.args.place None c.in-None.ensures.lookup ∙ ap (λ ts. slice_get ts c.args.place) c.deref.ensures.value in
    record { names = c.new.ensures.items ∙ ap (λ o. given_names (desc_at c.args.scene.now o)) there }

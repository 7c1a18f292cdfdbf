-- What stands at the place.
use Rattle.std.proofs.Common.{ap, slice_get, ◌∙◌}
use Rattle.ciel_look_tasks.proofs.KnownSteps.{get_is}
use Rattle.ciel_look_text.proofs.search.Steps.step_at.Goals as goal

pub returns : goal.returns
returns c =
    c.copied.ensures ∙ get_is c.deref.result.now c.args.place c.get.result c.get.ensures.lookup ∙ ap (λ xs. slice_get xs c.args.place) c.deref.ensures.value

-- The task at the place.
use Rattle.std.proofs.Common.{Some, None, ap, false, slice_get, sym, ◌||◌, ◌∙◌}
use Rattle.std.specs.List.{list_any}
use Rattle.ciel_look_tasks.specs.SceneView.{one_of}
use Rattle.ciel_look_tasks.specs.Tasks.{same_task}
use Rattle.ciel_look_tasks.specs.View.{ids}
use Rattle.ciel_look_tasks.proofs.KnownSteps.{get_is}
use Rattle.ciel_look_text.proofs.Going.{or_false}
use Rattle.ciel_look_text.proofs.why.is_at.Goals as goal

pub returns-in-Some : goal.returns-in-Some
returns-in-Some c =
    let there = get_is c.deref.result.now c.args.place (Some c.in-Some.task) c.in-Some.ensures.lookup
    ∙ ap (λ ts. slice_get ts c.args.place) c.deref.ensures.value in
    c.is_same.ensures ∙ sym (or_false (same_task c.args.id.now c.in-Some.task.now.id))
    ∙ ap (λ o. list_any (same_task c.args.id.now) (ids (one_of o))) there

pub returns-in-None : goal.returns-in-None
returns-in-None c =
    let there = get_is c.deref.result.now c.args.place None c.in-None.ensures.lookup ∙ ap (λ ts. slice_get ts c.args.place) c.deref.ensures.value in
    ap (λ o. list_any (same_task c.args.id.now) (ids (one_of o))) there

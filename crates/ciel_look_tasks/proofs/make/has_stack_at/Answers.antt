-- The task at the place has its orders.
use Rattle.std.proofs.Common.{None, Some, ap, slice_get, sym, ◌∙◌}
use Rattle.ciel_look_tasks.specs.StackPlaces.{passes}
use Rattle.ciel_look_tasks.specs.Stacks.{has_stack}
use Rattle.ciel_look_tasks.specs.View.{orders_view, starts_view}
use Rattle.ciel_look_tasks.proofs.KnownSteps.{get_is}
use Rattle.ciel_look_tasks.proofs.StackSteps.{filed_at, id_nowhere, id_there}
use Rattle.ciel_look_tasks.proofs.make.has_stack_at.Goals as goal

pub returns-in-Some : goal.returns-in-Some
returns-in-Some c =
    let ts = c.args.roll.now.tasks.items in
    let rs = c.args.runs.now in
    let there = get_is c.deref.result.now c.args.place (Some c.in-Some.task) c.in-Some.ensures.lookup ∙ ap (λ xs. slice_get xs c.args.place) c.deref.ensures.value in
    λ f. c.has_stack.ensures (filed_at (starts_view rs) ts c.args.place c.in-Some.task.now f.rows there)
    ∙ sym (ap (passes (has_stack c.args.worker (orders_view rs))) (id_there ts c.args.place c.in-Some.task.now there))

pub returns-in-None : goal.returns-in-None
returns-in-None c =
    let ts = c.args.roll.now.tasks.items in
    let there = get_is c.deref.result.now c.args.place None c.in-None.ensures.lookup ∙ ap (λ xs. slice_get xs c.args.place) c.deref.ensures.value in
    λ f. sym (ap (passes (has_stack c.args.worker (orders_view c.args.runs.now))) (id_nowhere ts c.args.place there))

-- The last order of the task.
use Rattle.std.proofs.Common.{◌-◌, ap, length, slice_get, ◌∙◌}
use Rattle.ciel_look_tasks.proofs.StackSteps.{stack_none, stack_there}
use Rattle.ciel_look_tasks.proofs.make.has_stack.Goals as goal

pub returns-in-Some : goal.returns-in-Some
returns-in-Some c =
    let t = c.args.task.now in
    let there = c.in-Some.ensures.value ∙ ap (λ ps. slice_get ps (length ps - 1)) c.deref.ensures.value in
    λ e. c.saved_there.ensures ∙ stack_there c.args.worker c.args.runs.now t.id t.runs.items c.in-Some.last.now there e

pub returns-in-None : goal.returns-in-None
returns-in-None c =
    let t = c.args.task.now in
    let there = c.in-None.ensures.value ∙ ap (λ ps. slice_get ps (length ps - 1)) c.deref.ensures.value in
    λ e. stack_none c.args.worker c.args.runs.now t.id t.runs.items there e

-- What stands at the place.
use Rattle.std.proofs.Common.{Some, None, ap, sym, slice_get, ◌∙◌}
use Rattle.ciel_look_tasks.specs.Orders.{is_out_at}
use Rattle.ciel_look_tasks.proofs.KnownSteps.{get_is}
use Rattle.ciel_look_tasks.proofs.RunSteps.{seen_nowhere, seen_there}
use Rattle.ciel_look_tasks.proofs.starts.Starts.is_out_at.Goals as goal

pub returns-in-Some : goal.returns-in-Some
returns-in-Some c =
    let there = get_is c.deref.result.now c.args.run (Some c.in-Some.held) c.in-Some.ensures.lookup
    ∙ ap (λ rs. slice_get rs c.args.run) c.deref.ensures.value in
    c.is_out_with.ensures ∙ sym (ap (is_out_at c.args.worker) (seen_there c.args.self.now.runs.items c.args.run c.in-Some.held.now there))

pub returns-in-None : goal.returns-in-None
returns-in-None c =
    let there = get_is c.deref.result.now c.args.run None c.in-None.ensures.lookup ∙ ap (λ rs. slice_get rs c.args.run) c.deref.ensures.value in
    sym (ap (is_out_at c.args.worker) (seen_nowhere c.args.self.now.runs.items c.args.run there))

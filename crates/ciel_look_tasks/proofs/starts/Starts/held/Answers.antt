-- What stands at the place.
use Rattle.std.proofs.Common.{Some, None, ap, sym, slice_get, ◌∙◌}
use Rattle.ciel_look_tasks.specs.Orders.{is_open_at}
use Rattle.ciel_look_tasks.proofs.KnownSteps.{get_is}
use Rattle.ciel_look_tasks.proofs.ReportSteps.{whose_there}
use Rattle.ciel_look_tasks.proofs.RunSteps.{seen_nowhere, seen_there}
use Rattle.ciel_look_tasks.proofs.starts.Starts.held.Goals as goal

pub returns-then-is_out-clause-open : goal.returns-then-is_out-clause-open
returns-then-is_out-clause-open c =
    let there = get_is c.deref.result.now c.args.run (Some c.in-Some.one) c.in-Some.ensures.lookup
    ∙ ap (λ rs. slice_get rs c.args.run) c.deref.ensures.value in
    sym c.if-is_out.true ∙ c.is_out.ensures ∙ sym (ap is_open_at (seen_there c.args.self.now.runs.items c.args.run c.in-Some.one.now there))

pub returns-else-is_out-clause-open : goal.returns-else-is_out-clause-open
returns-else-is_out-clause-open c =
    let there = get_is c.deref.result.now c.args.run (Some c.in-Some.one) c.in-Some.ensures.lookup
    ∙ ap (λ rs. slice_get rs c.args.run) c.deref.ensures.value in
    sym c.if-is_out.false ∙ c.is_out.ensures ∙ sym (ap is_open_at (seen_there c.args.self.now.runs.items c.args.run c.in-Some.one.now there))

pub returns-in-None-clause-open : goal.returns-in-None-clause-open
returns-in-None-clause-open c =
    let there = get_is c.deref.result.now c.args.run None c.in-None.ensures.lookup ∙ ap (λ rs. slice_get rs c.args.run) c.deref.ensures.value in
    sym (ap is_open_at (seen_nowhere c.args.self.now.runs.items c.args.run there))

pub returns-then-is_out-clause-start : goal.returns-then-is_out-clause-start
returns-then-is_out-clause-start c =
    let there = get_is c.deref.result.now c.args.run (Some c.in-Some.one) c.in-Some.ensures.lookup
    ∙ ap (λ rs. slice_get rs c.args.run) c.deref.ensures.value in
    whose_there c.args.self.now.runs.items c.args.run c.in-Some.one.now there

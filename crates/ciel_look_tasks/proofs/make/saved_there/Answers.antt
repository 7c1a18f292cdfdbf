-- What stands at the place.
use Rattle.std.proofs.Common.{None, Some, ap, sym, ◌∙◌}
use Rattle.ciel_look_tasks.specs.Stacks.{saved_at}
use Rattle.ciel_look_tasks.proofs.KnownSteps.{get_is}
use Rattle.ciel_look_tasks.proofs.RunSteps.{seen_nowhere, seen_there}
use Rattle.ciel_look_tasks.proofs.make.saved_there.Goals as goal

pub returns-in-Some : goal.returns-in-Some
returns-in-Some c =
    let there = get_is c.args.runs.now c.args.place (Some c.in-Some.run') c.in-Some.ensures.lookup in
    c.saved_at.ensures ∙ sym (ap (saved_at c.args.worker) (seen_there c.args.runs.now c.args.place c.in-Some.run'.now there))

pub returns-in-None : goal.returns-in-None
returns-in-None c =
    let there = get_is c.args.runs.now c.args.place None c.in-None.ensures.lookup in
    sym (ap (saved_at c.args.worker) (seen_nowhere c.args.runs.now c.args.place there))

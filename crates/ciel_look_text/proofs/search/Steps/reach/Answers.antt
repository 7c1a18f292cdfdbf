-- Unless its task was reached.
use Rattle.ciel_look_text.proofs.Stepping.{step_new, step_there}
use Rattle.ciel_look_text.proofs.search.Steps.reach.Goals as goal

pub returns-in-Some : goal.returns-in-Some
returns-in-Some c = record { steps = step_there c.args.self.now.all.items c.args.step c.in-Some.field-0 c.in-Some.ensures.place }

pub returns-in_ok-add-in-None : goal.returns-in_ok-add-in-None
returns-in_ok-add-in-None c =
    record { steps = step_new c.args.self.now.all.items _ c.args.step c.in-None.ensures.place c.in_ok-add-in-None.ensures.steps }

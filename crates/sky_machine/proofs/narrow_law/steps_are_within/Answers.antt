use Rattle.sky_machine.proofs.NarrowSteps.{step_within}
use Rattle.sky_machine.proofs.narrow_law.steps_are_within.Goals as goal

pub returns : goal.returns
returns c = record { steps = step_within }

use Rattle.sky_machine.proofs.Onward.{steps_fit}
use Rattle.sky_machine.proofs.law.steps_of_scripts_fit.Goals as goal

pub returns : goal.returns
returns c = record { steps = steps_fit }

use Rattle.sky_machine.proofs.Rests.{has_rest}
use Rattle.sky_machine.proofs.law.stacks_have_a_rest.Goals as goal

pub returns : goal.returns
returns c = record { rest = has_rest }

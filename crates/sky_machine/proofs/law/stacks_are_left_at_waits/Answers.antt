use Rattle.sky_machine.proofs.InnermostWaits.{stack_left}
use Rattle.sky_machine.proofs.law.stacks_are_left_at_waits.Goals as goal

pub returns : goal.returns
returns c = record { stacks = stack_left }

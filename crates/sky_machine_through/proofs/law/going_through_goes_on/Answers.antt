use Rattle.sky_machine_through.proofs.Goes.{goes_through}
use Rattle.sky_machine_through.proofs.law.going_through_goes_on.Goals as goal

pub returns : goal.returns
returns c = goes_through

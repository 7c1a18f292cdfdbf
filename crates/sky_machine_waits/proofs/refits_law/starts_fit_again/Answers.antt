use Rattle.sky_machine_waits.proofs.Begin.{start_fits, start_makes}
use Rattle.sky_machine_waits.proofs.refits_law.starts_fit_again.Goals as goal

pub returns-clause-fits : goal.returns-clause-fits
returns-clause-fits c = λ w r f k vs g sound fits start is. start_fits w sound r fits f k vs start g is

pub returns-clause-makes : goal.returns-clause-makes
returns-clause-makes c = λ w r f k vs sound fits start. start_makes w sound r fits f k vs start

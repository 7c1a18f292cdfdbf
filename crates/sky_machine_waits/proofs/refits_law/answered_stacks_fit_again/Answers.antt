use Rattle.sky_machine_waits.proofs.Again.{fits_answered, makes_answered}
use Rattle.sky_machine_waits.proofs.refits_law.answered_stacks_fit_again.Goals as goal

pub returns-clause-fits : goal.returns-clause-fits
returns-clause-fits c = λ w f j h g os sound saved waits objects is. fits_answered w sound f j h saved os waits objects g is

pub returns-clause-makes : goal.returns-clause-makes
returns-clause-makes c = λ w f j h os sound saved waits objects. makes_answered w sound f j h saved os waits objects

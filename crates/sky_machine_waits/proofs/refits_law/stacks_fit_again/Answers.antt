use Rattle.sky_machine_waits.proofs.Again.{fits_again, makes_sound, ends_sound}
use Rattle.sky_machine_waits.proofs.refits_law.stacks_fit_again.Goals as goal

pub returns-clause-fits : goal.returns-clause-fits
returns-clause-fits c = λ w f j h g e sound saved ends is. fits_again w sound f j h saved e ends g is

pub returns-clause-makes : goal.returns-clause-makes
returns-clause-makes c = λ w f j h e sound saved ends. (makes_sound w sound f j h saved e ends, ends_sound w sound f j h saved e ends)

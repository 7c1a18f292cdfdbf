use Rattle.sky_state.proofs.OpenFrames.{run_formed}
use Rattle.sky_state.proofs.SavedLaw.{saved_fits}
use Rattle.sky_state.proofs.law.stacks_open.Goals as goal

pub returns-clause-opened : goal.returns-clause-opened
returns-clause-opened c = λ sc r h w. run_formed sc r h w

pub returns-clause-saved : goal.returns-clause-saved
returns-clause-saved c = λ sc f j h k s few most some waits. saved_fits sc f j h k s few most some waits

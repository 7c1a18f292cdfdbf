use Rattle.ciel_look_law.proofs.Whole.{log_tells_own}
use Rattle.ciel_look_law.proofs.law.log_tells_own.Goals as goal

pub returns : goal.returns
returns c = log_tells_own

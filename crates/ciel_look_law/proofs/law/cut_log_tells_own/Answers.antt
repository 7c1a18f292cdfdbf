use Rattle.ciel_look_law.proofs.Whole.{cut_log_tells_own}
use Rattle.ciel_look_law.proofs.law.cut_log_tells_own.Goals as goal

pub returns : goal.returns
returns c = cut_log_tells_own

use Rattle.sky_base_law.proofs.Nexts.{next_there}
use Rattle.sky_base_law.proofs.ends_law.what_comes_next.Goals as goal

pub returns : goal.returns
returns c = record { next = λ job around n t j picks seen before. next_there job around n t j picks seen before }

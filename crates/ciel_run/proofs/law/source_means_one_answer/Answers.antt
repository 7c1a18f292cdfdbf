-- The law is proved over the definitions alone.
use Rattle.ciel_run.proofs.Exact as exact
use Rattle.ciel_run.proofs.law.source_means_one_answer.Goals as goal

pub returns : goal.returns
returns c = exact.means_one_answer

-- The law is proved over the definitions alone.
use Rattle.ciel_run.proofs.Exact as exact
use Rattle.ciel_run.proofs.law.script_is_run.Goals as goal

pub returns : goal.returns
returns c = exact.script_is_run

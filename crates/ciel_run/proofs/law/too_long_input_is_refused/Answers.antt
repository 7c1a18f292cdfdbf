-- The law is proved over the definitions alone.
use Rattle.ciel_run.proofs.Exact as exact
use Rattle.ciel_run.proofs.law.too_long_input_is_refused.Goals as goal

pub returns : goal.returns
returns c = exact.too_long_input_is_refused

use Rattle.ciel_log_fits.proofs.Calls.{vals_zero, zero_vals}
use Rattle.ciel_log_fits.proofs.descs.is_none.Goals as goal

pub returns-clause-yes : goal.returns-clause-yes
returns-clause-yes c = λ t. zero_vals c.len.result c.args.args.now c.len.ensures t

pub returns-clause-no : goal.returns-clause-no
returns-clause-no c = λ t. vals_zero c.len.result c.args.args.now c.len.ensures t

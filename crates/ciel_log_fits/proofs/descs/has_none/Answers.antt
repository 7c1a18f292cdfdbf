use Rattle.ciel_log_fits.proofs.Calls.{pairs_zero, zero_pairs}
use Rattle.ciel_log_fits.proofs.descs.has_none.Goals as goal

pub returns-clause-yes : goal.returns-clause-yes
returns-clause-yes c = λ t. zero_pairs c.len.result c.args.caught.now c.len.ensures t

pub returns-clause-no : goal.returns-clause-no
returns-clause-no c = λ t. pairs_zero c.len.result c.args.caught.now c.len.ensures t

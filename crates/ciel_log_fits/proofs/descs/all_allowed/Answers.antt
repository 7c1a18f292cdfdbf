use Rattle.ciel_log_fits.proofs.Calls.{all_serve}
use Rattle.ciel_log_fits.proofs.descs.all_allowed.Goals as goal

pub returns-clause-serves : goal.returns-clause-serves
returns-clause-serves c = λ t. all_serve c.args.script.now c.args.spawned.now (c.in_ok-allowed.ensures.yes t)

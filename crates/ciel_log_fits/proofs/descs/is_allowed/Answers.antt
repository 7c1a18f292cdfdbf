use Rattle.ciel_log_fits.proofs.Calls.{serves_of}
use Rattle.ciel_log_fits.proofs.descs.is_allowed.Goals as goal

pub returns-clause-serves : goal.returns-clause-serves
returns-clause-serves c = λ t. serves_of c.args.script.now c.args.desc.now (c.in_ok-allowed.ensures.yes t)

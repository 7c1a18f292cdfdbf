use Rattle.ciel_log_fits.proofs.Learned.{added}
use Rattle.ciel_log_fits.proofs.known.add.Goals as goal

pub returns-in-Ok : goal.returns-in-Ok
returns-in-Ok c = λ n. added c.args.names.now c.insert.new.self c.args.name.now n c.in-Ok.ensures.updates

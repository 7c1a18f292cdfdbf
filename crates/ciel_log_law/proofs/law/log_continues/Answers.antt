use Rattle.ciel_log_law.proofs.Written.{continues}
use Rattle.ciel_log_law.proofs.law.log_continues.Goals as goal

pub returns : goal.returns
returns g c = continues g.K.Kit.gives g.N.Namer.digest g.C.Crew.goes

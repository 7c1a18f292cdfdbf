use Rattle.ciel_log_law.proofs.Written.{tells_journal}
use Rattle.ciel_log_law.proofs.law.log_tells_journal.Goals as goal

pub returns : goal.returns
returns g c = tells_journal g.K.Kit.gives g.N.Namer.digest g.C.Crew.goes

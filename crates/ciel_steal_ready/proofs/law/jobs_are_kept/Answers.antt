use Rattle.ciel_steal_ready.proofs.Wholes.{jobs_are_kept}
use Rattle.ciel_steal_ready.proofs.law.jobs_are_kept.Goals as goal

pub returns : goal.returns
returns g c = jobs_are_kept g.row.T.Denot

use Rattle.ciel_master_safe.proofs.BoardGrowth.{goes_accepted, goes_lost}
use Rattle.ciel_master_safe.proofs.tasks_stay.Goals as goal

pub returns : goal.returns
returns c = record { accepted = goes_accepted; lost = goes_lost }

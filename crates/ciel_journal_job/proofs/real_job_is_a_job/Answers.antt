use Rattle.ciel_journal_job.proofs.RealLaw.{real_laws}
use Rattle.ciel_journal_job.proofs.real_job_is_a_job.Goals as goal

pub returns : goal.returns
returns c = record { job = λ job around name mark frozen. real_laws job around name mark frozen }

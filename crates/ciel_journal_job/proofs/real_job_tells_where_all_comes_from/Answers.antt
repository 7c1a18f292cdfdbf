use Rattle.ciel_journal_job.proofs.KnownLaw.{real_knows}
use Rattle.ciel_journal_job.proofs.real_job_tells_where_all_comes_from.Goals as goal

pub returns : goal.returns
returns c = record { told = λ job around name mark frozen plain. real_knows job around name mark frozen plain }

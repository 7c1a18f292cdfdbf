use Rattle.ciel_journal_job.proofs.Filled.{real_exact}
use Rattle.ciel_journal_job.proofs.reports.real_names_are_exact.Goals as goal

pub returns : goal.returns
returns c = record { exact = λ job around mark frozen tag. real_exact tag job around mark frozen }

use Rattle.ciel_journal_job.proofs.AlikeLaw.{needed_alike, work_is_finite}
use Rattle.ciel_journal_job.proofs.real_job_needs_what_the_meaning_does.Goals as goal

pub returns : goal.returns
returns c = record { needed = needed_alike; work = work_is_finite }

use Rattle.std.proofs.Common.{true, false}
use Rattle.ciel_journal.specs.Fixed.{small_lists}
use Rattle.ciel_journal.proofs.FixedLaw.{fixed_laws, small_fixed}
use Rattle.ciel_journal.proofs.OtherJobs.{circle_laws, fetch_laws, follow_laws}
use Rattle.ciel_journal.proofs.SmallKnown.{small_knows}
use Rattle.ciel_journal.proofs.SmallWork.{squares_work}
use Rattle.ciel_journal.proofs.law.small_jobs_are_jobs.Goals as goal

pub returns-clause-squares : goal.returns-clause-squares
returns-clause-squares c = fixed_laws (small_lists false) (small_fixed false)

pub returns-clause-lines : goal.returns-clause-lines
returns-clause-lines c = fixed_laws (small_lists true) (small_fixed true)

pub returns-clause-squares_known : goal.returns-clause-squares_known
returns-clause-squares_known c = small_knows false

pub returns-clause-lines_known : goal.returns-clause-lines_known
returns-clause-lines_known c = small_knows true

pub returns-clause-fetching : goal.returns-clause-fetching
returns-clause-fetching c = fetch_laws

pub returns-clause-circling : goal.returns-clause-circling
returns-clause-circling c = circle_laws

pub returns-clause-following : goal.returns-clause-following
returns-clause-following c = follow_laws

pub returns-clause-work : goal.returns-clause-work
returns-clause-work c = squares_work

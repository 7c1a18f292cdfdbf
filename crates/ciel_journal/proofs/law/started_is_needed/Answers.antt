use Rattle.ciel_journal.proofs.Started.{started}
use Rattle.ciel_journal.proofs.law.started_is_needed.Goals as goal

pub returns-clause-needed : goal.returns-clause-needed
returns-clause-needed g c job laws p before rest k w t from l = (started job laws p before rest k w t from l).0

pub returns-clause-missing : goal.returns-clause-missing
returns-clause-missing g c job laws p before rest k w t from l = (started job laws p before rest k w t from l).1

use Rattle.ciel_journal.proofs.OtherJobs as o
use Rattle.ciel_journal.proofs.SmallHistories as h
use Rattle.ciel_journal.proofs.law.small_histories_are_driven.Goals as goal

pub returns-clause-alone : goal.returns-clause-alone
returns-clause-alone c = h.alone

pub returns-clause-recovered : goal.returns-clause-recovered
returns-clause-recovered c = h.recovered

pub returns-clause-lost : goal.returns-clause-lost
returns-clause-lost c = h.at_once

pub returns-clause-copied : goal.returns-clause-copied
returns-clause-copied c = h.copied

pub returns-clause-missed : goal.returns-clause-missed
returns-clause-missed c = h.made_again

pub returns-clause-stack : goal.returns-clause-stack
returns-clause-stack c = h.stack_lost

pub returns-clause-fetched : goal.returns-clause-fetched
returns-clause-fetched c = o.fetched

pub returns-clause-round : goal.returns-clause-round
returns-clause-round c = o.round

pub returns-clause-circle : goal.returns-clause-circle
returns-clause-circle c = o.in_circle

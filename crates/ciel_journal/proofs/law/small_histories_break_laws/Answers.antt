use Rattle.ciel_journal.proofs.OtherJobs.{clash}
use Rattle.ciel_journal.proofs.SmallBroken as h
use Rattle.ciel_journal.proofs.law.small_histories_break_laws.Goals as goal

pub returns-clause-needless : goal.returns-clause-needless
returns-clause-needless c = h.needless

pub returns-clause-again : goal.returns-clause-again
returns-clause-again c = h.again

pub returns-clause-kept_places : goal.returns-clause-kept_places
returns-clause-kept_places c = h.kept_places

pub returns-clause-other_wait : goal.returns-clause-other_wait
returns-clause-other_wait c = h.other_wait

pub returns-clause-dropped : goal.returns-clause-dropped
returns-clause-dropped c = h.dropped

pub returns-clause-room : goal.returns-clause-room
returns-clause-room c = h.no_room

pub returns-clause-mark : goal.returns-clause-mark
returns-clause-mark c = h.wrong_mark

pub returns-clause-copy : goal.returns-clause-copy
returns-clause-copy c = h.own_copy

pub returns-clause-missed : goal.returns-clause-missed
returns-clause-missed c = h.none_lost

pub returns-clause-lost : goal.returns-clause-lost
returns-clause-lost c = h.unplanned

pub returns-clause-clash : goal.returns-clause-clash
returns-clause-clash c = clash

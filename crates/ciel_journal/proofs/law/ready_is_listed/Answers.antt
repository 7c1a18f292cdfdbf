use Rattle.ciel_journal.proofs.Startable.{listed_or_circle, ready_starts}
use Rattle.ciel_journal.proofs.law.ready_is_listed.Goals as goal

pub returns-clause-listed : goal.returns-clause-listed
returns-clause-listed g c job laws inner knows p h l none ts k = listed_or_circle job laws inner knows p h l none ts k

pub returns-clause-starts : goal.returns-clause-starts
returns-clause-starts g c job laws inner knows p h l one going t r w i = ready_starts job laws inner knows p h one l going t r w i

use Rattle.ciel_journal.proofs.Startable.{listed_or_circle, ready_starts}
use Rattle.ciel_journal_job.specs.Inner.{real_inner}
use Rattle.ciel_journal_job.specs.RealLaws.{the}
use Rattle.ciel_journal_job.proofs.HistoriesLaw.{book_made, circles_never, ends_in_answer, knows, laws, made_seen, saved_stands, starts_few, starts_needed}
use Rattle.ciel_journal_job.proofs.real_histories.Goals as goal

pub returns-clause-needed : goal.returns-clause-needed
returns-clause-needed c job around name mark frozen sound plain p h l k w u from i = starts_needed job around name mark frozen p h l k w u from i

pub returns-clause-few : goal.returns-clause-few
returns-clause-few c job around name mark frozen sound plain p h l a means = starts_few job around name mark frozen p h l sound a means

pub returns-clause-answer : goal.returns-clause-answer
returns-clause-answer c job around name mark frozen sound plain p h l o = ends_in_answer job around name mark frozen p h l o

pub returns-clause-endless : goal.returns-clause-endless
returns-clause-endless c job around name mark frozen sound plain p h l ds k = circles_never job around name mark frozen p h l ds k

pub returns-clause-listed : goal.returns-clause-listed
returns-clause-listed c job around name mark frozen sound plain p h l none us ks =
    listed_or_circle (the job around name mark frozen) (laws job around name mark frozen) (real_inner job around)
    (knows job around name mark frozen plain) p h l none us ks

pub returns-clause-starts : goal.returns-clause-starts
returns-clause-starts c job around name mark frozen sound plain p h l one going u r w i =
    ready_starts (the job around name mark frozen) (laws job around name mark frozen) (real_inner job around)
    (knows job around name mark frozen plain) p h one l going u r w i

pub returns-clause-made : goal.returns-clause-made
returns-clause-made c job around name mark frozen sound plain p h l k made copied spawned d m i j =
    made_seen job around name mark frozen p h l k made copied spawned d m i j

pub returns-clause-saved : goal.returns-clause-saved
returns-clause-saved c job around name mark frozen sound plain p h l k w u from st j m refs holds spawned i =
    saved_stands job around name mark frozen p h l k w u from st j m refs holds spawned i

pub returns-clause-book : goal.returns-clause-book
returns-clause-book c job around name mark frozen sound plain p h l d i = book_made job around name mark frozen p h l d i

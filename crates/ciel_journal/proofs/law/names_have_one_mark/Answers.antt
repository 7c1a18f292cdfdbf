use Rattle.ciel_journal.proofs.Published.{publishes, one_mark, one_state}
use Rattle.ciel_journal.proofs.law.names_have_one_mark.Goals as goal

pub returns-clause-made : goal.returns-clause-made
returns-clause-made g c job laws p h l k made copied spawned d mark i j = publishes job laws p h l k made copied spawned d mark i j

pub returns-clause-one_mark : goal.returns-clause-one_mark
returns-clause-one_mark g c job laws p h l k m made more x y name a b i j s t = one_mark job laws p h l k m made more x y name a b i j s t

pub returns-clause-one_state : goal.returns-clause-one_state
returns-clause-one_state g c job laws p h l k m w u t from i s e j a b r x q y z v n o =
    one_state job laws p h l k m w u t from i s e j a b r x q y z v n o

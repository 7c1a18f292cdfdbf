use Rattle.ciel_journal.proofs.OneWorker.{one_whole, one_worker}
use Rattle.ciel_journal.proofs.law.one_worker_is_determined.Goals as goal

pub returns-clause-prefix : goal.returns-clause-prefix
returns-clause-prefix g c job laws p n a b x y l = one_worker job laws p n a b x y l

pub returns-clause-whole : goal.returns-clause-whole
returns-clause-whole g c job laws p n a b x y s t = one_whole job laws p n a b x y s t

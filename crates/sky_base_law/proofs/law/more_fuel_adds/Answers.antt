use Rattle.sky_base_law.proofs.MoreFuel.{seen_stays, answer_stays, acts_grow_to, ended_stays_to}
use Rattle.sky_base_law.proofs.law.more_fuel_adds.Goals as goal

pub returns-clause-seen : goal.returns-clause-seen
returns-clause-seen c job around n m d o l h = seen_stays job around n m d o l h

pub returns-clause-answer : goal.returns-clause-answer
returns-clause-answer c job around n m a l h ne = answer_stays job around n m a l h ne

pub returns-clause-acts : goal.returns-clause-acts
returns-clause-acts c job around n m t l = acts_grow_to job around n m t l

pub returns-clause-ended : goal.returns-clause-ended
returns-clause-ended c job around n m t l h = ended_stays_to job around n m t l h

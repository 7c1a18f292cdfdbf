use Rattle.sky_base_law.proofs.TypedJobs.{see_typed, needed_typed, made_typed, waits_typed, stands_typed, wave_typed}
use Rattle.sky_base_law.proofs.law.values_keep_their_types.Goals as goal

pub returns-clause-seen : goal.returns-clause-seen
returns-clause-seen c job around start n d o h t s = see_typed job around start n d o h t s

pub returns-clause-needed : goal.returns-clause-needed
returns-clause-needed c job around start t h = needed_typed job around start t h

pub returns-clause-made : goal.returns-clause-made
returns-clause-made c job around start n t d h i = made_typed job around start n t d h i

pub returns-clause-waited : goal.returns-clause-waited
returns-clause-waited c job around start t j ds h wait = waits_typed job around start t j ds h wait

pub returns-clause-state : goal.returns-clause-state
returns-clause-state c job around start t j s h g = stands_typed job around start t j s h g

pub returns-clause-wave : goal.returns-clause-wave
returns-clause-wave c job around start n j v h = wave_typed job around start n j v h

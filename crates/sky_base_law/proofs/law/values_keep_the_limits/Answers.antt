use Rattle.sky_base_law.proofs.SoundJobs.{see_sound, needed_sound, made_sound, wait_sound, stands_sound, wave_sound}
use Rattle.sky_base_law.proofs.law.values_keep_the_limits.Goals as goal

pub returns-clause-seen : goal.returns-clause-seen
returns-clause-seen c job around reads n d o s h = see_sound job around reads n d o s h

pub returns-clause-needed : goal.returns-clause-needed
returns-clause-needed c job around reads t h = needed_sound job around reads t h

pub returns-clause-made : goal.returns-clause-made
returns-clause-made c job around reads n t d h i = made_sound job around reads n t d (needed_sound job around reads t h) i

pub returns-clause-waited : goal.returns-clause-waited
returns-clause-waited c job around reads t j ds h wait = wait_sound job around reads t j ds (needed_sound job around reads t h) wait

pub returns-clause-state : goal.returns-clause-state
returns-clause-state c job around reads t j s h g = stands_sound job around reads t j s (needed_sound job around reads t h) g

pub returns-clause-wave : goal.returns-clause-wave
returns-clause-wave c job around reads n j v h = wave_sound job around reads n j v h

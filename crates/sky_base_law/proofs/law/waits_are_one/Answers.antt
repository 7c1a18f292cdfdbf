use Rattle.sky_base_law.proofs.SeenLaw.{wait_one, stands_one}
use Rattle.sky_base_law.proofs.TaskFuel.{held_one}
use Rattle.sky_base_law.proofs.law.waits_are_one.Goals as goal

pub returns-clause-wait : goal.returns-clause-wait
returns-clause-wait c job around t j ds es h g = wait_one job around t j ds es h g

pub returns-clause-state : goal.returns-clause-state
returns-clause-state c job around t j s u h g = stands_one job around t j s u h g

pub returns-clause-held : goal.returns-clause-held
returns-clause-held c job around t j ds es h g = held_one job around t j ds es h g

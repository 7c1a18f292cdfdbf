use Rattle.sky_machine.proofs.Onward.{stays, makes_next}
use Rattle.sky_machine.proofs.law.calls_stay_sound.Goals as goal

pub returns-clause-stays : goal.returns-clause-stays
returns-clause-stays c = λ digest sc r new os came a comes. stays digest sc r os a came new comes

pub returns-clause-makes : goal.returns-clause-makes
returns-clause-makes c = λ digest sc f h r os a left. makes_next digest sc r os a f h left

use Rattle.sky_machine_waits.proofs.Again.{wait_ends}
use Rattle.sky_machine_waits.proofs.refits_law.answers_are_sound.Goals as goal

pub returns : goal.returns
returns c = record { ends = λ w q os sound s h. wait_ends w sound q os s h }

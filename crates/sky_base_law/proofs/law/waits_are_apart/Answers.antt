use Rattle.sky_base_law.proofs.ApartLaw.{waits_apart}
use Rattle.sky_base_law.proofs.law.waits_are_apart.Goals as goal

pub returns : goal.returns
returns c = record { apart = λ job around t j ds w. waits_apart job around w.0 t j ds w.1 }

use Rattle.sky_base_law.proofs.WorkLaw.{means_work}
use Rattle.sky_base_law.proofs.law.work_is_finite.Goals as goal

pub returns : goal.returns
returns c = record { work = λ job around a h. means_work job around a h }

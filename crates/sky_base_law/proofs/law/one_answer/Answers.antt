use Rattle.sky_base_law.proofs.SeenLaw.{means_one}
use Rattle.sky_base_law.proofs.law.one_answer.Goals as goal

pub returns : goal.returns
returns c = record { answer = λ job around a b l m. means_one job around a b l m }

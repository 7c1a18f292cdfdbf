use Rattle.sky_base_law.proofs.NeededEnds.{circle_never}
use Rattle.sky_base_law.proofs.law.circle_is_endless.Goals as goal

pub returns : goal.returns
returns c = record { never = λ job around t h k. circle_never job around t h k }

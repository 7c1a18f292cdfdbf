use Rattle.std.proofs.Common.{refl}
use Rattle.sky_machine_loop.proofs.law.runs_over_names.Goals as goal

pub returns : goal.returns
returns c = λ digest sc reads. record { script = refl; make = λ d. refl }

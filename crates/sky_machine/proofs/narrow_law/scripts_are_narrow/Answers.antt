use Rattle.sky_machine.proofs.Narrows.{script_narrow}
use Rattle.sky_machine.proofs.narrow_law.scripts_are_narrow.Goals as goal

pub returns : goal.returns
returns c = record { scripts = script_narrow }

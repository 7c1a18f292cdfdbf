use Rattle.ciel_name_law.proofs.Scripts.{script_typed}
use Rattle.ciel_name_law.proofs.law.scripts_are_typed.Goals as goal

pub returns : goal.returns
returns c = record { scripts = script_typed }

use Rattle.ciel_name_law.proofs.Made.{script_uses}
use Rattle.ciel_name_law.proofs.law.named_functions_use_nothing.Goals as goal

pub returns : goal.returns
returns c = record { scripts = script_uses }

use Rattle.ciel_name_law.proofs.JsonTyped.{json_reads_typed}
use Rattle.ciel_name_law.proofs.law.data_is_typed.Goals as goal

pub returns : goal.returns
returns c = record { reads = json_reads_typed }

use Rattle.ciel_memo.proofs.Plain.{knows_the_table}
use Rattle.ciel_memo.proofs.law.the_table_is_known.Goals as goal

pub returns : goal.returns
returns c = knows_the_table

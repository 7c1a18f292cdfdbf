-- The law is proved over the definitions alone.
use Rattle.ciel_run.proofs.Recalled as recalled
use Rattle.ciel_run.proofs.law.right_memo_changes_nothing.Goals as goal

pub returns : goal.returns
returns c = recalled.right_memo_changes_nothing

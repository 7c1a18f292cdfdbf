use Rattle.ciel_task_call.proofs.Says.{says_where}
use Rattle.ciel_task_call.proofs.law.going_through_says.Goals as goal

pub returns : goal.returns
returns c = says_where

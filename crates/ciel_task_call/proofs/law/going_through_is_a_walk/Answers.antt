use Rattle.ciel_task_call.proofs.Walks.{walked}
use Rattle.ciel_task_call.proofs.law.going_through_is_a_walk.Goals as goal

pub returns : goal.returns
returns c = walked

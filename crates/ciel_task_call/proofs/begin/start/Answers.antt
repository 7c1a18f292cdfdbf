use Rattle.sky_state.specs.StateView.{stand_of}
use Rattle.ciel_task_call.proofs.TaskStart.{starts_call}
use Rattle.ciel_task_call.proofs.begin.start.Goals as goal

pub returns-in_ok-state-in-Call-clause-start : goal.returns-in_ok-state-in-Call-clause-start
returns-in_ok-state-in-Call-clause-start c =
    starts_call c.args.code.now c.args.order.now.main _ _ c.in-Some.is _ _ _ c.in-Call.is (stand_of c.in_ok-state-in-Call.state)
    c.in_ok-state-in-Call.ensures.start c.in_ok-state-in-Call.ensures.stands

use Rattle.std.proofs.Common.{sym, subst}
use Rattle.sky_base_law.specs.Tasks.{In}
use Rattle.ciel_task_call.proofs.TaskStart.{in_end}
use Rattle.ciel_task_call.proofs.begin.thaw.Goals as goal

pub returns-in-Err-clause-thawed : goal.returns-in-Err-clause-thawed
returns-in-Err-clause-thawed c =
    (sym c.in-Err.ensures.found.0, subst (In c.in-Err.gone.loss) (sym c.in-Err.ensures.found.1) (in_end c.args.eye.now.losses c.in-Err.gone.loss))

use Rattle.ciel_table.specs.Seen.{waits_of}
use Rattle.ciel_table.proofs.Waits.{above_none}
use Rattle.ciel_want_ready_tests.proofs.steps.has_none.Goals as goal

pub returns-in-None : goal.returns-in-None
returns-in-None c h =
    above_none 1 (waits_of c.args.task.now c.args.table.now) c.in-None.ensures.last

use Rattle.std.proofs.lemmas.Bool.{ltb-true}
use Rattle.ciel_table.specs.Seen.{waits_of}
use Rattle.ciel_table.proofs.Waits.{above_latest, above_none}
use Rattle.ciel_table_tests.proofs.steps.is_above.Goals as goal

pub returns-in-Some : goal.returns-in-Some
returns-in-Some c h =
    above_latest c.args.j (waits_of c.args.task.now c.args.table.now) c.in-Some.wait.now c.in-Some.ensures.last
    (ltb-true c.in-Some.wait.now.j c.args.j h)

pub returns-in-None : goal.returns-in-None
returns-in-None c h =
    above_none c.args.j (waits_of c.args.task.now c.args.table.now) c.in-None.ensures.last

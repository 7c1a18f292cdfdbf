use Rattle.sky_machine_resume.specs.Comes.{run_of}
use Rattle.sky_machine_resume.proofs.BeginLaw.{begins_as, begin_makes_as}
use Rattle.sky_machine_resume.proofs.start.begin.Goals as goal

pub returns-clause-stands : goal.returns-clause-stands
returns-clause-stands g c =
    begins_as (g.N.Namer.digest c.args.namer.now) c.args.script.now.code (run_of c.args.run.now) (run_of c.from_start.new.run) c.in_ok-came.came
    c.in_ok-came.ensures.comes

pub returns-clause-makes : goal.returns-clause-makes
returns-clause-makes g c =
    begin_makes_as (g.N.Namer.digest c.args.namer.now) c.args.script.now.code (run_of c.args.run.now) c.args.run.now.spawned
    c.from_start.new.run.spawned c.in_ok-came.ensures.made

use Rattle.sky_machine_resume.specs.Comes.{run_of}
use Rattle.sky_machine_resume.proofs.StandLaw.{goes_as, makes_as}
use Rattle.sky_machine_resume.proofs.on.go_on.Goals as goal

pub returns-clause-stands : goal.returns-clause-stands
returns-clause-stands g c =
    goes_as (g.N.Namer.digest c.args.namer.now) c.args.script.now.code (run_of c.args.run.now) (run_of c.from_wait.new.run) c.args.answers.now
    c.in_ok-came.came c.in_ok-came.ensures.comes

pub returns-clause-makes : goal.returns-clause-makes
returns-clause-makes g c =
    makes_as (g.N.Namer.digest c.args.namer.now) c.args.script.now.code (run_of c.args.run.now) c.args.answers.now c.args.run.now.spawned
    c.from_wait.new.run.spawned c.in_ok-came.ensures.made

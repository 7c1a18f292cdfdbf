use Rattle.sky_machine_resume.specs.Comes.{run_of}
use Rattle.sky_machine.proofs.Rests.{read_fits, sound_kept, left_comes, left_makes, left_stands, left_makes_as, left_stays, left_sound}
use Rattle.sky_machine.proofs.call.from_wait.Goals as goal

pub go_on-requires-clause-steps : goal.go_on-requires-clause-steps
go_on-requires-clause-steps g c = read_fits c.args.script.now.code c.requires.read

pub go_on-requires-clause-answers : goal.go_on-requires-clause-answers
go_on-requires-clause-answers g c = sound_kept c.args.script.now.code c.args.answers.now c.requires.answers

pub returns-clause-comes : goal.returns-clause-comes
returns-clause-comes g c =
    left_comes (g.N.Namer.digest c.args.namer.now) c.args.script.now.code (run_of c.args.run.now) (run_of c.go_on.new.run) c.requires.waits
    c.args.answers.now c.in_ok-came.came c.in_ok-came.ensures.comes

pub returns-clause-made : goal.returns-clause-made
returns-clause-made g c =
    left_makes (g.N.Namer.digest c.args.namer.now) c.args.script.now.code (run_of c.args.run.now) (run_of c.go_on.new.run) c.requires.waits
    c.args.answers.now c.args.run.now.spawned c.go_on.new.run.spawned c.in_ok-came.ensures.made

pub returns-clause-stands : goal.returns-clause-stands
returns-clause-stands g c =
    left_stands (g.N.Namer.digest c.args.namer.now) c.args.script.now.code (run_of c.args.run.now) (run_of c.go_on.new.run) c.requires.waits
    c.args.answers.now c.in_ok-came.came c.in_ok-came.ensures.stands

pub returns-clause-makes : goal.returns-clause-makes
returns-clause-makes g c =
    left_makes_as (g.N.Namer.digest c.args.namer.now) c.args.script.now.code (run_of c.args.run.now) (run_of c.go_on.new.run) c.requires.waits
    c.args.answers.now c.args.run.now.spawned c.go_on.new.run.spawned c.in_ok-came.ensures.makes

pub returns-clause-fits : goal.returns-clause-fits
returns-clause-fits g c =
    left_stays (g.N.Namer.digest c.args.namer.now) c.args.script.now.code (run_of c.args.run.now) (run_of c.go_on.new.run) c.requires.waits
    c.args.answers.now c.requires.fits c.requires.answers c.in_ok-came.came c.in_ok-came.ensures.comes

pub returns-clause-sound : goal.returns-clause-sound
returns-clause-sound g c =
    left_sound (g.N.Namer.digest c.args.namer.now) c.args.script.now.code (run_of c.args.run.now) (run_of c.go_on.new.run) c.requires.waits
    c.args.answers.now c.requires.fits c.requires.answers c.args.run.now.spawned c.go_on.new.run.spawned c.in_ok-came.ensures.made

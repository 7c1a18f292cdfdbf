use Rattle.sky_machine_resume.specs.Comes.{run_of}
use Rattle.sky_machine.proofs.Rests.{read_fits, begun_comes, begun_makes, begun_stands, begun_makes_as, begun_stays, begun_sound}
use Rattle.sky_machine.proofs.call.from_start.Goals as goal

pub begin-requires-clause-steps : goal.begin-requires-clause-steps
begin-requires-clause-steps g c = read_fits c.args.script.now.code c.requires.read

pub returns-clause-comes : goal.returns-clause-comes
returns-clause-comes g c =
    begun_comes (g.N.Namer.digest c.args.namer.now) c.args.script.now.code (run_of c.args.run.now) (run_of c.begin.new.run) c.requires.start
    c.args.answers.now c.in_ok-came.came c.in_ok-came.ensures.comes

pub returns-clause-made : goal.returns-clause-made
returns-clause-made g c =
    begun_makes (g.N.Namer.digest c.args.namer.now) c.args.script.now.code (run_of c.args.run.now) (run_of c.begin.new.run) c.requires.start
    c.args.answers.now c.args.run.now.spawned c.begin.new.run.spawned c.in_ok-came.ensures.made

pub returns-clause-stands : goal.returns-clause-stands
returns-clause-stands g c =
    begun_stands (g.N.Namer.digest c.args.namer.now) c.args.script.now.code (run_of c.args.run.now) (run_of c.begin.new.run) c.requires.start
    c.args.answers.now c.in_ok-came.came c.in_ok-came.ensures.stands

pub returns-clause-makes : goal.returns-clause-makes
returns-clause-makes g c =
    begun_makes_as (g.N.Namer.digest c.args.namer.now) c.args.script.now.code (run_of c.args.run.now) (run_of c.begin.new.run) c.requires.start
    c.args.answers.now c.args.run.now.spawned c.begin.new.run.spawned c.in_ok-came.ensures.makes

pub returns-clause-fits : goal.returns-clause-fits
returns-clause-fits g c =
    begun_stays (g.N.Namer.digest c.args.namer.now) c.args.script.now.code (run_of c.args.run.now) (run_of c.begin.new.run) c.requires.start
    c.args.answers.now c.in_ok-came.came c.requires.fits c.in_ok-came.ensures.comes

pub returns-clause-sound : goal.returns-clause-sound
returns-clause-sound g c =
    begun_sound (g.N.Namer.digest c.args.namer.now) c.args.script.now.code (run_of c.args.run.now) (run_of c.begin.new.run) c.requires.start
    c.args.answers.now c.args.run.now.spawned c.begin.new.run.spawned c.requires.fits c.in_ok-came.ensures.made

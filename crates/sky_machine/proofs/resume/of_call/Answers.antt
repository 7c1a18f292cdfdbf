use Rattle.std.proofs.Common.{map, subst, sym}
use Rattle.sky_base.specs.ObjectView.{object_view}
use Rattle.sky_state.specs.Stand.{Stand}
use Rattle.sky_machine_resume.specs.Comes.{run_of}
use Rattle.sky_machine.specs.Exactly.{Exactly, FitsAfter, OneFurther}
use Rattle.sky_machine.specs.Knows.{CameWith, KnowsNames}
use Rattle.sky_machine.specs.Steps.{Resumed}
use Rattle.sky_machine.proofs.Knows.{call_knows}
use Rattle.sky_machine.proofs.Resumes.{call_exactly, call_further, call_fits}
use Rattle.sky_machine.proofs.Steps.{call_resumed}
use Rattle.sky_machine.proofs.resume.of_call.Goals as goal

pub returns-clause-comes : goal.returns-clause-comes
returns-clause-comes g c =
    let digest = g.N.Namer.digest c.args.namer.now in
    let sc = c.args.script.now.code in
    subst (λ s. Exactly digest sc (map object_view c.args.answers.now) (Stand.run (run_of c.args.run.now)) (Stand.run (run_of c.advance.new.run))
    s) (sym c.step.ensures) (call_exactly digest sc (run_of c.args.run.now) (run_of c.advance.new.run) c.args.answers.now c.in_ok-came.came
    c.in_ok-came.ensures.comes)

pub returns-clause-resumed : goal.returns-clause-resumed
returns-clause-resumed g c =
    let digest = g.N.Namer.digest c.args.namer.now in
    let sc = c.args.script.now.code in
    let made = c.in_ok-came.ensures.sound in
    subst (λ s. Resumed digest sc (Stand.run (run_of c.args.run.now)) (Stand.run (run_of c.advance.new.run)) (map object_view c.args.answers.now)
    s c.args.run.now.spawned c.advance.new.run.spawned) (sym c.step.ensures)
    (call_resumed digest sc (run_of c.args.run.now) (run_of c.advance.new.run) c.args.answers.now c.in_ok-came.came c.args.run.now.spawned
    c.advance.new.run.spawned made.made made.grew c.in_ok-came.ensures.stands c.in_ok-came.ensures.makes)

pub returns-clause-fits : goal.returns-clause-fits
returns-clause-fits g c =
    subst (λ s. FitsAfter c.args.script.now.code (Stand.run (run_of c.advance.new.run)) s) (sym c.step.ensures)
    (call_fits c.args.script.now.code (run_of c.advance.new.run) c.in_ok-came.came c.in_ok-came.ensures.fits)

pub returns-clause-further : goal.returns-clause-further
returns-clause-further g c =
    let digest = g.N.Namer.digest c.args.namer.now in
    let sc = c.args.script.now.code in
    subst (λ s. OneFurther (Stand.run (run_of c.args.run.now)) (Stand.run (run_of c.advance.new.run)) s) (sym c.step.ensures)
    (call_further digest sc (run_of c.args.run.now) (run_of c.advance.new.run) c.args.answers.now c.in_ok-came.came c.requires.fits
    c.in_ok-came.ensures.comes)

pub returns-clause-known : goal.returns-clause-known
returns-clause-known g c =
    let digest = g.N.Namer.digest c.args.namer.now in
    let sc = c.args.script.now.code in
    subst (λ s. KnowsNames digest (CameWith (Stand.run (run_of c.args.run.now)) (map object_view c.args.answers.now)) s
    (Stand.run (run_of c.advance.new.run)) c.args.run.now.spawned c.advance.new.run.spawned) (sym c.step.ensures)
    (call_knows digest sc (run_of c.args.run.now) (run_of c.advance.new.run) c.args.answers.now c.in_ok-came.came c.args.run.now.spawned
    c.advance.new.run.spawned c.requires.fits c.in_ok-came.ensures.comes c.in_ok-came.ensures.made)

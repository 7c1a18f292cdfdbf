use Rattle.std.proofs.Common.{[], map, subst, sym}
use Rattle.sky_base.specs.ObjectView.{object_view}
use Rattle.sky_base.specs.View.{view}
use Rattle.sky_state.specs.Stand.{Stand}
use Rattle.sky_state.specs.StateView.{stand_of, spawned_of}
use Rattle.sky_machine.specs.Exactly.{Exactly, MakesExactly}
use Rattle.sky_machine_resume.specs.Comes.{run_of}
use Rattle.sky_machine.specs.Knows.{CameWith, KnowsNames}
use Rattle.sky_machine.proofs.Rests.{sound_kept}
use Rattle.sky_machine.proofs.ShowsKnown.{root_knows}
use Rattle.sky_machine.proofs.resume.resume.Goals as goal

pub of_root-requires-clause-answers : goal.of_root-requires-clause-answers
of_root-requires-clause-answers g c = sound_kept c.args.script.now.code c.args.answers.now c.requires.answers

pub returns-in_ok-step-in-Run-clause-made : goal.returns-in_ok-step-in-Run-clause-made
returns-in_ok-step-in-Run-clause-made g c =
    let digest = g.N.Namer.digest c.args.namer.now in
    subst (λ s. MakesExactly digest c.args.script.now.code (map object_view c.args.answers.now) (stand_of s) (spawned_of s)
    c.of_call.new.run.spawned) (sym c.in-Run.is) c.in_ok-step-in-Run.ensures.made

pub returns-in_ok-step-in-Show-clause-comes : goal.returns-in_ok-step-in-Show-clause-comes
returns-in_ok-step-in-Show-clause-comes g c =
    let digest = g.N.Namer.digest c.args.namer.now in
    let sc = c.args.script.now.code in
    subst (λ s. Exactly digest sc (map object_view c.args.answers.now) (stand_of s) (Stand.show_at (view c.of_root.new.value) c.of_root.new.wave)
    c.in_ok-step-in-Show.step) (sym c.in-Show.is) (c.in_ok-step-in-Show.ensures.comes digest sc)

pub returns-in_ok-step-in-Show-clause-fits : goal.returns-in_ok-step-in-Show-clause-fits
returns-in_ok-step-in-Show-clause-fits g c =
    let sc = c.args.script.now.code in
    c.in_ok-step-in-Show.ensures.fits sc (rw c.in-Show.is at c.requires.fits) c.requires.answers

pub returns-in_ok-step-in-Run-clause-known : goal.returns-in_ok-step-in-Run-clause-known
returns-in_ok-step-in-Run-clause-known g c =
    let digest = g.N.Namer.digest c.args.namer.now in
    subst (λ s. KnowsNames digest (CameWith (stand_of s) (map object_view c.args.answers.now)) c.in_ok-step-in-Run.step
    (Stand.run (run_of c.of_call.new.run)) (spawned_of s) c.of_call.new.run.spawned) (sym c.in-Run.is) c.in_ok-step-in-Run.ensures.known

pub returns-in_ok-step-in-Show-clause-known : goal.returns-in_ok-step-in-Show-clause-known
returns-in_ok-step-in-Show-clause-known g c =
    let digest = g.N.Namer.digest c.args.namer.now in
    let sc = c.args.script.now.code in
    let new = Stand.show_at (view c.of_root.new.value) c.of_root.new.wave in
    subst (λ s. KnowsNames digest (CameWith (stand_of s) (map object_view c.args.answers.now)) c.in_ok-step-in-Show.step new (spawned_of s) [])
    (sym c.in-Show.is) (root_knows digest sc (map object_view c.args.answers.now) (view c.in-Show.value) c.in-Show.wave new
    c.in_ok-step-in-Show.step (c.in_ok-step-in-Show.ensures.comes digest sc))

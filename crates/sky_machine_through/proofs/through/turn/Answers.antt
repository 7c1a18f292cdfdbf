use Rattle.std.proofs.Common.{Some, map, sym, ap, ◌∙◌, subst}
use Rattle.sky_base.specs.Names.{known_of}
use Rattle.sky_base.specs.ObjectView.{object_view}
use Rattle.sky_base.specs.Val.{known}
use Rattle.sky_base_law.specs.Tasks.{In}
use Rattle.sky_state.specs.StateView.{stand_of, spawned_of}
use Rattle.sky_machine.specs.Onward.{AnswersSound}
use Rattle.sky_machine.specs.declared.step.Step.{Step}
use Rattle.sky_machine_through.specs.Found.{AllFound}
use Rattle.sky_machine_through.proofs.Turns.{found_names, found_sound, kind_of, names_found}
use Rattle.sky_machine_through.proofs.Wholes.{grew_whole}
use Rattle.sky_machine_through.proofs.through.turn.Goals as goal

pub resume-requires-clause-answers : goal.resume-requires-clause-answers
resume-requires-clause-answers g c =
    let finds = g.F.Finds.finds c.args.finder.now in
    let sc = c.args.script.now.code in
    subst (λ os. AnswersSound sc os) (sym c.as_slice.ensures.value)
    (found_sound finds sc (known_of c.in_ok-names.names) c.in-Ok.answers.items c.requires.sound
    (rw c.in-Ok.is at c.in_ok-answers.ensures.objects))

pub returns-then-goes-clause-kind : goal.returns-then-goes-clause-kind
returns-then-goes-clause-kind g c =
    kind_of (g.N.Namer.digest c.args.namer.now) c.args.script.now.code (map object_view c.as_slice.result.now) (stand_of c.args.state.now)
    (stand_of c.resume.new.state) Step.Waits c.requires.fits (rw c.in-Waits.is at c.in_ok-resume.ensures.comes)

pub returns-in-Waits-clause-kind : goal.returns-in-Waits-clause-kind
returns-in-Waits-clause-kind g c =
    kind_of (g.N.Namer.digest c.args.namer.now) c.args.script.now.code (map object_view c.as_slice.result.now) (stand_of c.args.state.now)
    (stand_of c.resume.new.state) Step.Waits c.requires.fits (rw c.in-Waits.is at c.in_ok-resume.ensures.comes)

pub find_all-requires-clause-found : goal.find_all-requires-clause-found
find_all-requires-clause-found g c =
    found_names (g.F.Finds.finds c.args.finder.now) c.in_ok-names.names (λ n i. c.requires.found n (subst (In (known n)) c.in_ok-names.ensures i))

pub returns-then-goes-clause-turns : goal.returns-then-goes-clause-turns
returns-then-goes-clause-turns g c =
    let finds = g.F.Finds.finds c.args.finder.now in
    let objects = rw c.in-Ok.is at c.in_ok-answers.ensures.objects in
    let found = ap (map finds) (sym c.in_ok-names.ensures) ∙ objects ∙ ap (λ os. map Some (map object_view os)) (sym c.as_slice.ensures.value) in
    let all = subst (λ f. AllFound f (known_of c.in_ok-pending-in-Waits.field-0)) c.in_ok-answers.ensures.finder
    (rw c.if-goes.true at c.has_all-goes.ensures) in (
      map object_view c.as_slice.result.now,
      found,
      rw c.in-Waits.is at c.in_ok-resume.ensures.resumed,
      λ n i. names_found finds (known_of c.in_ok-pending-in-Waits.field-0) all n (subst (In (known n)) (sym c.in_ok-pending-in-Waits.ensures) i),
      rw c.in-Waits.is at c.in_ok-resume.ensures.known,
    )

pub returns-then-goes-clause-whole : goal.returns-then-goes-clause-whole
returns-then-goes-clause-whole g c =
    grew_whole (g.N.Namer.digest c.args.namer.now) c.args.script.now.code (map object_view c.as_slice.result.now) (stand_of c.args.state.now)
    (spawned_of c.args.state.now) (spawned_of c.resume.new.state) c.requires.fits c.in_ok-resume.ensures.made

pub returns-in-Waits-clause-whole : goal.returns-in-Waits-clause-whole
returns-in-Waits-clause-whole g c =
    grew_whole (g.N.Namer.digest c.args.namer.now) c.args.script.now.code (map object_view c.as_slice.result.now) (stand_of c.args.state.now)
    (spawned_of c.args.state.now) (spawned_of c.resume.new.state) c.requires.fits c.in_ok-resume.ensures.made

pub returns-in-Ended-clause-whole : goal.returns-in-Ended-clause-whole
returns-in-Ended-clause-whole g c =
    grew_whole (g.N.Namer.digest c.args.namer.now) c.args.script.now.code (map object_view c.as_slice.result.now) (stand_of c.args.state.now)
    (spawned_of c.args.state.now) (spawned_of c.resume.new.state) c.requires.fits c.in_ok-resume.ensures.made

pub returns-clause-whole : goal.returns-clause-whole
returns-clause-whole g c =
    grew_whole (g.N.Namer.digest c.args.namer.now) c.args.script.now.code (map object_view c.as_slice.result.now) (stand_of c.args.state.now)
    (spawned_of c.args.state.now) (spawned_of c.resume.new.state) c.requires.fits c.in_ok-resume.ensures.made

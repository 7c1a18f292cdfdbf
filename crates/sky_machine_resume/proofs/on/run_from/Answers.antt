use Rattle.std.proofs.Common.{◌++◌, map, sym, ap, ◌∙◌, subst, add-one}
use Rattle.sky_base.specs.Read.{frames_of, segment}
use Rattle.sky_machine_entries.specs.Config.{config}
use Rattle.sky_machine_entries.specs.Entries.{forms, end_of, wait_of}
use Rattle.sky_machine_save.specs.Saving.{AllCanSave}
use Rattle.sky_machine_resume.specs.Comes.{over_names, with_name}
use Rattle.sky_machine_resume.proofs.Goes.{runs_on, grew_named}
use Rattle.sky_machine_resume.proofs.on.run_from.Goals as goal

pub returns-in-Ended-clause-comes : goal.returns-in-Ended-clause-comes
returns-in-Ended-clause-comes g c =
    let digest = g.N.Namer.digest c.args.ground.now.namer.now in
    let sc = c.args.ground.now.code.now in (
      (end_of c.in-Ended.end, c.run_on.new.state),
      rw c.in-Ended.is at (c.in_ok-stop.ensures.reaches (over_names digest sc) (runs_on digest sc)),
      c.object_of.ensures,
    )

pub returns-in-Ended-clause-made : goal.returns-in-Ended-clause-made
returns-in-Ended-clause-made g c =
    let digest = g.N.Namer.digest c.args.ground.now.namer.now in
    let sc = c.args.ground.now.code.now in
    let w = over_names digest sc in
    let grew = c.in_ok-stop.ensures.made w (runs_on digest sc) in
    let ds = segment (config w c.args.entries.now.items c.args.control c.args.state.now) in
    c.of.ensures
    ∙ grew_named digest c.into_vec-made.result.items c.run_on.new.made.items ds grew.descs grew.names
    ∙ ap (λ xs. xs ++ map (with_name digest) ds) (c.into_vec-made.ensures ∙ c.replace.ensures.value)

pub save-requires : goal.save-requires
save-requires g c =
    let digest = g.N.Namer.digest c.args.ground.now.namer.now in
    let sc = c.args.ground.now.code.now in
    let here = rw c.in-Waits.is at (c.in_ok-stop.ensures.reaches (over_names digest sc) (runs_on digest sc)) in
    subst (λ es. AllCanSave (forms es)) (sym c.as_slice.ensures.value)
    (c.requires.saves (record { wait = wait_of c.in-Waits.field-0; forms = forms c.run_on.new.entries.items; st = c.run_on.new.state }) here
    c.in_ok-stop.ensures.ready)

pub returns-clause-comes : goal.returns-clause-comes
returns-clause-comes g c =
    let digest = g.N.Namer.digest c.args.ground.now.namer.now in
    let sc = c.args.ground.now.code.now in
    let here = rw c.in-Waits.is at (c.in_ok-stop.ensures.reaches (over_names digest sc) (runs_on digest sc)) in
    let frames = c.in_ok-run-in-Waits.ensures ∙ ap (λ es. frames_of (forms es) c.args.fun.now c.vars.result.now) c.as_slice.ensures.value
    ∙ ap (λ xs. frames_of (forms c.run_on.new.entries.items) c.args.fun.now xs) c.vars.ensures.variables in (
      record { wait = wait_of c.in-Waits.field-0; forms = forms c.run_on.new.entries.items; st = c.run_on.new.state },
      here,
      λ i. record { frames = frames i; count = c.count-run.ensures i; waits = add-one c.args.run.now.waits i },
    )

pub returns-clause-made : goal.returns-clause-made
returns-clause-made g c =
    let digest = g.N.Namer.digest c.args.ground.now.namer.now in
    let sc = c.args.ground.now.code.now in
    let w = over_names digest sc in
    let grew = c.in_ok-stop.ensures.made w (runs_on digest sc) in
    let ds = segment (config w c.args.entries.now.items c.args.control c.args.state.now) in
    c.of.ensures
    ∙ grew_named digest c.into_vec-made.result.items c.run_on.new.made.items ds grew.descs grew.names
    ∙ ap (λ xs. xs ++ map (with_name digest) ds) (c.into_vec-made.ensures ∙ c.replace.ensures.value)

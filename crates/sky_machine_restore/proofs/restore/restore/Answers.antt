use Rattle.std.proofs.Common.{IsSome, refl, sym, ap, ◌∙◌, subst, arith}
use Rattle.sky_base.specs.Eval.{body_of}
use Rattle.sky_state.specs.Chained.{body_places}
use Rattle.sky_state.proofs.OpenFrames.{run_formed}
use Rattle.sky_base_scope.specs.Plain.{Vars}
use Rattle.sky_machine_entries.specs.Config.{opened}
use Rattle.sky_machine_entries.specs.Entries.{forms}
use Rattle.sky_machine_restore.specs.Restoring.{frames_forms, top_vars}
use Rattle.sky_machine_restore.proofs.Restores.{formed_forms, formed_vars, formed_opened}
use Rattle.sky_machine_restore.proofs.Walk.{same_forms, same_vars}
use Rattle.sky_machine_restore.proofs.restore.restore.Goals as goal

pub open_frames-requires-clause-opens : goal.open_frames-requires-clause-opens
open_frames-requires-clause-opens c =
    let sc = c.args.code.now in
    let g = run_formed sc (record { frames = c.args.run.now.frames; count = c.args.run.now.count; waits = c.args.run.now.waits }) c.requires.fits
    c.requires.waits in
    let is = formed_forms sc (body_places (body_of g.0 sc)) g.0 g.1 c.args.run.now.frames g.2 in
    subst (λ fs. IsSome (frames_forms sc fs)) (sym c.as_slice-frames.ensures) (subst IsSome (sym is) refl)

pub returns-clause-forms : goal.returns-clause-forms
returns-clause-forms c = λ ps f xs g.
    let sc = c.args.code.now in
    same_forms (frames_forms sc c.args.run.now.frames) (forms c.in_ok-entries.entries.items) g.forms
    (ap (frames_forms sc) (sym c.as_slice-frames.ensures) ∙ c.in_ok-entries.ensures.forms) (formed_forms sc ps f xs c.args.run.now.frames g)

pub returns-clause-vars : goal.returns-clause-vars
returns-clause-vars c = λ ps f xs g.
    let sc = c.args.code.now in
    ap (λ (s : Vars). s.vars) c.of.ensures ∙ same_vars (top_vars c.args.run.now.frames) c.in_ok-vars.vars xs
    (ap top_vars (sym c.as_slice-frames.ensures) ∙ c.in_ok-vars.ensures.vars) (formed_vars sc ps f xs c.args.run.now.frames g)

pub returns-clause-opened : goal.returns-clause-opened
returns-clause-opened c =
    let sc = c.args.code.now in
    let g = run_formed sc (record { frames = c.args.run.now.frames; count = c.args.run.now.count; waits = c.args.run.now.waits }) c.requires.fits
    c.requires.waits in
    let ps = body_places (body_of g.0 sc) in
    let is = same_forms (frames_forms sc c.args.run.now.frames) (forms c.in_ok-entries.entries.items) g.2.forms
    (ap (frames_forms sc) (sym c.as_slice-frames.ensures) ∙ c.in_ok-entries.ensures.forms)
    (formed_forms sc ps g.0 g.1 c.args.run.now.frames g.2) in
    omega (arith, formed_opened sc ps g.0 g.1 c.args.run.now.frames g.2, ap opened is)

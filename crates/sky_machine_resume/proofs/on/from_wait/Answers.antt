use Rattle.std.proofs.Common.{◌≡◌, ◌++◌, length, map, Some, refl, sym, ap, ◌∙◌, subst, arith}
use Rattle.sky_base.specs.Res.{others, all_of}
use Rattle.sky_base.specs.Read.{rest_of, segment}
use Rattle.sky_base.specs.ObjectView.{object_view}
use Rattle.sky_machine_entries.specs.Config.{opened}
use Rattle.sky_machine_entries.specs.Entries.{forms}
use Rattle.sky_state.specs.Chained.{body_places}
use Rattle.sky_state.proofs.OpenFrames.{run_formed}
use Rattle.sky_base.specs.Eval.{body_of}
use Rattle.sky_machine_waits.specs.Waits.{wait_in}
use Rattle.sky_machine_resume.specs.Comes.{over_names, with_name, run_of, Comes}
use Rattle.sky_machine_resume.proofs.Goes.{rest_is, formed_of, fun_of, saves}
use Rattle.sky_machine_resume.proofs.Limits.{many_frames, few_frames, room_left, few_waits}
use Rattle.sky_machine_resume.proofs.Stacks.{list_kept}
use Rattle.sky_machine_resume.proofs.on.from_wait.Goals as goal

pub overflow_cast-left : goal.overflow_cast-left
overflow_cast-left g c =
    let few = few_frames c.args.run.now.frames c.requires.fits.few_frames in
    let many = sym (many_frames c.as_slice.result.now) ∙ ap length c.as_slice.ensures in omega (arith, few, many)

pub overflow_sub-left : goal.overflow_sub-left
overflow_sub-left g c =
    let few = few_frames c.args.run.now.frames c.requires.fits.few_frames in
    let many = sym (many_frames c.as_slice.result.now) ∙ ap length c.as_slice.ensures in omega (arith, few, many)

pub end_of_wait-requires-clause-list : goal.end_of_wait-requires-clause-list
end_of_wait-requires-clause-list g c = λ ds is.
    let sc = c.args.script.now.code in
    let r = run_of c.args.run.now in
    let o = run_formed sc r c.requires.fits c.requires.waits in
    let same : forms c.as_slice-2.result.now ≡ o.2.forms = ap forms c.as_slice-2.ensures.value
    ∙ c.in_ok-entries.ensures.forms (body_places (body_of o.0 sc)) o.0 o.1 o.2 in
    let there : wait_in sc o.2.forms ≡ Some (all_of ds) =
    subst (λ xs. wait_in sc xs ≡ Some (all_of ds)) same
    (subst (λ s. wait_in s (forms c.as_slice-2.result.now) ≡ Some (all_of ds)) c.requires.same is) in
    list_kept sc r o.2.forms o.0 o.1 ds c.requires.fits o.2.frames there

pub run_from-requires-clause-room : goal.run_from-requires-clause-room
run_from-requires-clause-room g c =
    let few = few_frames c.args.run.now.frames c.requires.fits.few_frames in
    let many = sym (many_frames c.as_slice.result.now) ∙ ap length c.as_slice.ensures in
    room_left (opened (forms c.in_ok-entries.field-0.entries.items)) (length c.args.run.now.frames) (length c.as_slice.result.now)
    c.in_ok-entries.ensures.opened few (omega (arith, many))

pub run_from-requires-clause-waits : goal.run_from-requires-clause-waits
run_from-requires-clause-waits g c = few_waits c.args.run.now.waits c.args.run.now.count c.requires.fits.waits c.requires.fits.count

pub run_from-requires-clause-saves : goal.run_from-requires-clause-saves
run_from-requires-clause-saves g c = λ h is ready.
    let sc = c.args.script.now.code in
    let r = run_of c.args.run.now in
    saves (g.N.Namer.digest c.args.namer.now) sc r c.in_ok-entries.field-0.entries.items c.in_ok-end.end c.in_ok-entries.field-0.state
    c.requires.steps c.requires.fits c.requires.waits (λ f xs o. c.in_ok-entries.ensures.forms (body_places (body_of f sc)) f xs o) h is
    ready

pub returns-clause-comes : goal.returns-clause-comes
returns-clause-comes g c = λ f h l.
    let digest = g.N.Namer.digest c.args.namer.now in
    let sc = c.args.script.now.code in
    let w = over_names digest sc in
    let r = run_of c.args.run.now in
    let o = formed_of sc f h r l in
    let fr : forms c.in_ok-entries.field-0.entries.items ≡ h.forms = c.in_ok-entries.ensures.forms (body_places (body_of f sc)) f h.st.vars o in
    let waits : wait_in c.args.script.now.nodes (forms c.as_slice-2.result.now) ≡ Some h.wait =
    subst (λ s. wait_in s (forms c.as_slice-2.result.now) ≡ Some h.wait) (sym c.requires.same)
    (subst (λ xs. wait_in sc xs ≡ Some h.wait) (sym (ap forms c.as_slice-2.ensures.value ∙ fr)) l.wait) in
    let end = c.in_ok-end.ensures.end w h.wait (λ b. refl) waits in
    let vars = c.in_ok-entries.ensures.vars (body_places (body_of f sc)) f h.st.vars o in
    let count = c.in_ok-entries.ensures.count ∙ sym l.count in
    let rest = rest_is w c.in_ok-entries.field-0.entries.items c.in_ok-end.end c.in_ok-entries.field-0.state h
    (map object_view c.args.answers.now) fr end vars count in
    let fun : c.in_ok-fun.fun ≡ f = c.in_ok-fun.ensures ∙ fun_of sc f h r l in
    subst (λ x. Comes x c.args.run.now.waits (rest_of w others h (map object_view c.args.answers.now)) c.in_ok-came.came
    (run_of c.run_from.new.run)) fun (subst (λ x. Comes c.in_ok-fun.fun c.args.run.now.waits x c.in_ok-came.came (run_of c.run_from.new.run))
    rest c.in_ok-came.ensures.comes)

pub returns-clause-made : goal.returns-clause-made
returns-clause-made g c = λ f h l.
    let digest = g.N.Namer.digest c.args.namer.now in
    let sc = c.args.script.now.code in
    let w = over_names digest sc in
    let r = run_of c.args.run.now in
    let o = formed_of sc f h r l in
    let fr : forms c.in_ok-entries.field-0.entries.items ≡ h.forms = c.in_ok-entries.ensures.forms (body_places (body_of f sc)) f h.st.vars o in
    let waits : wait_in c.args.script.now.nodes (forms c.as_slice-2.result.now) ≡ Some h.wait =
    subst (λ s. wait_in s (forms c.as_slice-2.result.now) ≡ Some h.wait) (sym c.requires.same)
    (subst (λ xs. wait_in sc xs ≡ Some h.wait) (sym (ap forms c.as_slice-2.ensures.value ∙ fr)) l.wait) in
    let end = c.in_ok-end.ensures.end w h.wait (λ b. refl) waits in
    let vars = c.in_ok-entries.ensures.vars (body_places (body_of f sc)) f h.st.vars o in
    let count = c.in_ok-entries.ensures.count ∙ sym l.count in
    let rest = rest_is w c.in_ok-entries.field-0.entries.items c.in_ok-end.end c.in_ok-entries.field-0.state h
    (map object_view c.args.answers.now) fr end vars count in
    c.in_ok-came.ensures.made ∙ ap (λ x. c.args.run.now.spawned ++ map (with_name digest) (segment x)) rest

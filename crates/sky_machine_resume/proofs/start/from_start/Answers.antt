use Rattle.std.proofs.Common.{◌≡◌, ◌++◌, map, sym, ap, ◌∙◌, subst}
use Rattle.sky_base.specs.Tree.{nowhere}
use Rattle.sky_base.specs.Res.{bodies}
use Rattle.sky_base.specs.Eval.{Body, body_of, body_at}
use Rattle.sky_base.specs.Read.{first_halt, segment}
use Rattle.sky_base.specs.See.{start_st}
use Rattle.sky_base_scope.specs.RunView.{KeptPairs}
use Rattle.sky_machine_entries.specs.Config.{config}
use Rattle.sky_base_law.proofs.BodiesLaw.{body_stands}
use Rattle.sky_machine_resume.specs.Comes.{over_names, with_name, run_of, bottom_vars, Comes}
use Rattle.sky_machine_resume.proofs.Begins.{start_kept, start_fun, starts_so, begun, start_saves}
use Rattle.sky_machine_resume.proofs.start.from_start.Goals as goal

pub of-state-requires : goal.of-state-requires
of-state-requires g c =
    subst (λ vs. KeptPairs vs) (sym c.in_ok-variables.ensures) (start_kept c.args.script.now.code c.args.run.now.frames c.requires.fits.frames)

pub open_block-requires-clause-has : goal.open_block-requires-clause-has
open_block-requires-clause-has g c = body_stands c.args.script.now.code c.in_ok-fun.fun _ c.in-Some.ensures

pub run_from-requires-clause-saves : goal.run_from-requires-clause-saves
run_from-requires-clause-saves g c = λ h is ready.
    let digest = g.N.Namer.digest c.args.namer.now in
    let sc = c.args.script.now.code in
    let w = over_names digest sc in
    let st = c.of-state.result in
    let b : Body = record { params = c.in-Some.body.params.now; block = c.in-Some.body.block.now; node = c.in-Some.body.node } in
    let block = c.in_ok-control.ensures.same w st ∙ begun w c.new-entries.result.items b st c.new-entries.ensures.items in
    start_saves digest sc b c.in_ok-fun.fun st h c.requires.steps c.in-Some.ensures (ap first_halt (sym block) ∙ is) ready

pub returns-clause-comes : goal.returns-clause-comes
returns-clause-comes g c = λ f ps vs start.
    let digest = g.N.Namer.digest c.args.namer.now in
    let sc = c.args.script.now.code in
    let w = over_names digest sc in
    let st = c.of-state.result in
    let b : Body = record { params = c.in-Some.body.params.now; block = c.in-Some.body.block.now; node = c.in-Some.body.node } in
    let block = c.in_ok-control.ensures.same w st ∙ begun w c.new-entries.result.items b st c.new-entries.ensures.items in
    let r = run_of c.args.run.now in
    let vars : st ≡ record { vars = bottom_vars r.frames; count = 0 } = c.of-state.ensures
    ∙ (λ i. record { vars = c.in_ok-variables.ensures i; count = 0 }) in
    let whole = block ∙ starts_so w b c.in_ok-fun.fun f ps vs r st (sym c.in_ok-fun.ensures) vars c.in-Some.ensures start in
    let fun : c.in_ok-fun.fun ≡ f = c.in_ok-fun.ensures ∙ start_fun (body_of f sc) f ps vs r start in
    let here = subst (λ j. Comes c.in_ok-fun.fun j (config w c.open_block.new.entries.items c.in_ok-control.control st) c.in_ok-came.came
    (run_of c.run_from.new.run)) c.requires.start c.in_ok-came.ensures.comes in
    subst (λ x. Comes x 0 (body_at w bodies f ps vs nowhere start_st) c.in_ok-came.came (run_of c.run_from.new.run)) fun
    (subst (λ x. Comes c.in_ok-fun.fun 0 x c.in_ok-came.came (run_of c.run_from.new.run)) whole here)

pub returns-clause-made : goal.returns-clause-made
returns-clause-made g c = λ f ps vs start.
    let digest = g.N.Namer.digest c.args.namer.now in
    let sc = c.args.script.now.code in
    let w = over_names digest sc in
    let st = c.of-state.result in
    let b : Body = record { params = c.in-Some.body.params.now; block = c.in-Some.body.block.now; node = c.in-Some.body.node } in
    let block = c.in_ok-control.ensures.same w st ∙ begun w c.new-entries.result.items b st c.new-entries.ensures.items in
    let r = run_of c.args.run.now in
    let vars : st ≡ record { vars = bottom_vars r.frames; count = 0 } = c.of-state.ensures
    ∙ (λ i. record { vars = c.in_ok-variables.ensures i; count = 0 }) in
    let whole = block ∙ starts_so w b c.in_ok-fun.fun f ps vs r st (sym c.in_ok-fun.ensures) vars c.in-Some.ensures start in
    c.in_ok-came.ensures.made ∙ ap (λ x. c.args.run.now.spawned ++ map (with_name digest) (segment x)) whole

use Rattle.std.proofs.Common.{refl, ap, ◌∙◌}
use Rattle.sky_base.specs.Tree.{nowhere}
use Rattle.sky_base.specs.Res.{others, bodies, with_vars, fails}
use Rattle.sky_base.specs.Eval.{Body, bind, body_of, eval_block}
use Rattle.sky_base.specs.See.{start_st}
use Rattle.sky_base.specs.declared.fault.FaultKind.{FaultKind}
use Rattle.sky_base_law.proofs.BodiesLaw.{body_stands}
use Rattle.sky_base_scope.specs.Plain.{Vars}
use Rattle.sky_machine_entries.specs.Config.{body_in, rest_in, config}
use Rattle.sky_machine_entries.specs.Entries.{forms}
use Rattle.sky_machine_calls.proofs.Begun.{body_opened}
use Rattle.sky_machine_loop.proofs.Starts.{no_start}
use Rattle.sky_machine_loop.proofs.start.start.Goals as goal

pub returns-in_default-clause-same : goal.returns-in_default-clause-same
returns-in_default-clause-same c = λ w h.
    ap (λ x. config w c.args.entries.now.items x c.args.state.now) c.fail.ensures
    ∙ ap (λ es. rest_in w es (fails FaultKind.BadKind nowhere c.args.state.now)) c.requires.none
    ∙ ap (fails FaultKind.BadKind nowhere) c.requires.state
    ∙ no_start w c.args.code.now others c.args.fun.now c.args.caught.now c.args.args.now nowhere start_st h c.in_default.ensures

pub open_block-requires-clause-has : goal.open_block-requires-clause-has
open_block-requires-clause-has c = body_stands c.args.code.now c.args.fun.now _ c.in-Some.ensures

pub returns-clause-same : goal.returns-clause-same
returns-clause-same c = λ w h.
    let b : Body = record { params = c.in-Some.body.params.now; block = c.in-Some.body.block.now; node = c.in-Some.body.node } in
    let st = c.bind.new.self in
    c.in_ok-control.ensures.same w st ∙ ap (λ es. rest_in w es (eval_block w (body_in w (forms es)) b.block b.node st)) c.requires.none
    ∙ body_opened w bodies others others c.args.fun.now c.args.caught.now c.args.args.now nowhere b start_st st refl refl
    (ap (body_of c.args.fun.now) h ∙ c.in-Some.ensures)
    (c.in_ok-bind.ensures.ok ∙ ap (λ (s : Vars). with_vars (bind b.params c.args.args.now c.args.caught.now) s) c.requires.state)

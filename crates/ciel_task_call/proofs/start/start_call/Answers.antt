use Rattle.std.proofs.Common.{◌≡◌, ◌∷◌, [], ◌∙◌, refl, sym, ap, subst}
use Rattle.sky_base.specs.Eval.{bind, body_of}
use Rattle.sky_state.specs.BodyView.{IsBody}
use Rattle.sky_state.specs.Stand.{Stand}
use Rattle.sky_state.specs.Start.{StartsCall}
use Rattle.sky_state.specs.declared.start.Body.{Body}
use Rattle.sky_state.proofs.Starts.{begun, body_there, starts_call, starts_fit}
use Rattle.sky_state.proofs.FitsLaw.{starts_stand}
use Rattle.ciel_task_call.proofs.start.start_call.Goals as goal

pub unreachable-requires : goal.unreachable-requires
unreachable-requires c = body_there c.args.code.now c.args.fun.now c.args.caught.now c.args.args.now c.requires.call c.in_default.ensures

pub returns-clause-start : goal.returns-clause-start
returns-clause-start c =
    let script = c.args.code.now in
    let b : Body = record { params = c.in-Some.body.params; node = c.in-Some.body.node } in
    let f = c.args.fun.now in
    let vars : c.in_ok-vars.vars ≡ bind b.params.now c.args.args.now c.args.caught.now = c.in_ok-vars.ensures in
    let found : IsBody b (body_of f script) = subst (λ o. IsBody b o) (sym c.in-Some.ensures) (refl, refl) in
    let is : begun f c.args.caught.now c.args.args.now b
    ≡ record { frames = c.in_ok-run.run'.frames; count = c.in_ok-run.run'.count; waits = c.in_ok-run.run'.waits } =
    sym (λ i. record {
      frames = (c.in_ok-run.ensures.frames
          ∙ ap (λ xs. record { fun = f; vars = xs; stack = []; todo = record { node = b.node; step = 0 } ∷ [] } ∷ []) vars) i;
      count =
          c.in_ok-run.ensures.count i;
      waits = c.in_ok-run.ensures.waits i;
    }) in
    subst (λ r. StartsCall script f c.args.caught.now c.args.args.now (Stand.run r)) is
    (starts_call script f c.args.caught.now c.args.args.now b c.requires found)

pub returns-clause-fits : goal.returns-clause-fits
returns-clause-fits c =
    starts_fit c.args.code.now c.args.fun.now c.args.caught.now c.args.args.now _ c.requires (returns-clause-start c)

pub returns-clause-stands : goal.returns-clause-stands
returns-clause-stands c =
    starts_stand c.args.code.now c.args.fun.now c.args.caught.now c.args.args.now _ (returns-clause-start c)

use Rattle.std.proofs.Common.{◌≡◌, ◌∷◌, [], ◌∙◌, sym, ap, subst}
use Rattle.sky_base.specs.Eval.{bind}
use Rattle.sky_state.specs.Stand.{Stand}
use Rattle.sky_state.specs.Start.{StartsCall}
use Rattle.sky_state.proofs.Starts.{begun, starts_call, starts_fit}
use Rattle.sky_state.proofs.FitsLaw.{starts_stand}
use Rattle.sky_state.proofs.state.State.start_call.Goals as goal

pub returns-clause-start : goal.returns-clause-start
returns-clause-start c =
    let script = c.args.script.now in
    let b = c.find_body-body.result in
    let f = c.args.fun.now in
    let vars : c.in_ok-vars.vars ≡ bind b.params.now c.args.args.now c.args.caught.now = c.in_ok-vars.ensures in
    let is : begun f c.args.caught.now c.args.args.now b
    ≡ record { frames = c.in_ok-run.run'.frames; count = c.in_ok-run.run'.count; waits = c.in_ok-run.run'.waits } =
    sym (λ i. record {
      frames = (c.in_ok-run.ensures.frames
          ∙ ap (λ xs. record { fun = f; vars = xs; stack = []; todo = record { node = b.node; step = 0 } ∷ [] } ∷ []) vars) i;
      count =
          c.in_ok-run.ensures.count i;
      waits = c.in_ok-run.ensures.waits i;
    }) in
    subst (λ r. StartsCall script f c.args.caught.now c.args.args.now (Stand.run r)) is
    (starts_call script f c.args.caught.now c.args.args.now b c.requires c.find_body-body.ensures)

pub returns-clause-fits : goal.returns-clause-fits
returns-clause-fits c =
    starts_fit c.args.script.now c.args.fun.now c.args.caught.now c.args.args.now _ c.requires (returns-clause-start c)

pub returns-clause-stands : goal.returns-clause-stands
returns-clause-stands c =
    starts_stand c.args.script.now c.args.fun.now c.args.caught.now c.args.args.now _ (returns-clause-start c)

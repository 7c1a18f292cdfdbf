-- What a call and the root task come to, exactly.
use Rattle.std.proofs.Common.{◌≡◌, ◌++◌, ℕ, suc, List, map, refl, sym, ap, ◌∙◌}
use Rattle.sky_base.specs.Val as v
use Rattle.sky_base.specs.Tree.{Script}
use Rattle.sky_base.specs.Res.{Object}
use Rattle.sky_base.specs.Read.{Run}
use Rattle.sky_base.specs.ObjectView.{object_view}
use Rattle.sky_base.specs.declared.object.Object as rust
use Rattle.sky_state.specs.Fits.{FitsRun}
use Rattle.sky_state.specs.Stand.{Stand}
use Rattle.sky_machine_resume.specs.declared.on.Came.{Came}
use Rattle.sky_machine.specs.Exactly.{Exactly, FitsAfter, OneFurther}
use Rattle.sky_machine.specs.Laws.{Stays}
use Rattle.sky_machine.specs.Onward.{ComesOf}
use Rattle.sky_machine.proofs.Rests.{has_rest}
use Rattle.sky_machine.specs.Steps.{step_of}

module _ (digest : List ℕ → List ℕ) (sc : Script) (old new : Run (List ℕ)) (answers : List rust.Object) where
  pub call_exactly : (came : Came) → ComesOf digest sc old answers came new
      → Exactly digest sc (map object_view answers) (Stand.run old) (Stand.run new) (step_of came)
  call_exactly (Came.Ended o) comes = λ f r h. comes f r h
  call_exactly Came.Waits comes = λ f r h. let c = comes f r h in (c.0, c.1, ap Stand.run c.2)

  pub call_further : (came : Came) → FitsRun sc old → ComesOf digest sc old answers came new
      → OneFurther (Stand.run old) (Stand.run new) (step_of came)
  call_further (Came.Ended o) fits comes = tt
  call_further Came.Waits fits comes =
      let rest = has_rest digest sc old (map object_view answers) fits in
      ap (λ (r : Run (List ℕ)). r.waits) (comes rest.0 rest.1 rest.2).2

pub call_fits : (sc : Script) (new : Run (List ℕ)) (came : Came) → Stays sc came new → FitsAfter sc (Stand.run new) (step_of came)
call_fits sc new (Came.Ended o) h = h
call_fits sc new Came.Waits h = h

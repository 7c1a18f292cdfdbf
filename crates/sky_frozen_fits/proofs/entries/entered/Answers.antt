use Rattle.std.proofs.Common.{◌≡◌, ◌∷◌, sym, ap, subst, arith}
use Rattle.sky_state.specs.StandView.{todo_view, todos_view, stack_view}
use Rattle.sky_machine_restore.proofs.Walk.{stack_length, others_are}
use Rattle.sky_frozen_fits.specs.Entered.{Entered}
use Rattle.sky_frozen_fits.proofs.entries.entered.Goals as goal

pub split_at-requires : goal.split_at-requires
split_at-requires c =
    omega (arith, c.in-Some-first_fits.ensures.some, c.in-Some-first_fits.ensures.fits.enough, stack_length c.loop-todo.left.now)

pub loop-todo-preserved : goal.loop-todo-preserved
loop-todo-preserved c =
    let l = c.loop-todo in
    let sc = c.args.code.now in
    let t = todo_view c.in-Some.todo.now in
    let ts = todos_view c.in-Some.further.now in
    let vs = stack_view l.left.now in
    let is : todos_view l.rest.now ≡ t ∷ ts = ap todos_view c.in-Some.ensures.cases.0 in
    let rest = others_are sc t c.in-Some-first_fits.own l.left.now c.split_at.result.1.now c.split_at.ensures.back
    c.in-Some-first_fits.ensures.some in
    record {
      all = λ h. l.invariant.all (subst (λ x. Entered sc x vs) (sym is) (c.in-Some-first_fits.ensures.fits, subst (Entered sc ts) rest h));
      left = λ h. subst (Entered sc ts) (sym rest) (subst (λ x. Entered sc x vs) is (l.invariant.left h)).1;
    }

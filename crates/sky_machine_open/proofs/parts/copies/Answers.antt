use Rattle.std.proofs.Common.{◌≡◌, ◌+◌, ◌++◌, [], ◌∷◌, take, sym, ap, ◌∙◌, arith, add-one, take-suc}
use Rattle.sky_base.specs.View.{view}
use Rattle.sky_base.specs.declared.value.Value.{Value}
use Rattle.sky_base_scope.specs.Plain.{items}
use Rattle.sky_state.specs.StandView.{stack_view}
use Rattle.sky_machine_open.proofs.Lists.{items_push, stack_push}
use Rattle.sky_machine_open.proofs.parts.copies.Goals as goal

pub loop-value-preserved : goal.loop-value-preserved
loop-value-preserved c =
    let l = c.loop-value in
    let xs = c.args.kept.now in
    let i = l.value-index in
    let x = c.value-item.result in
    let more : take (i + 1) xs ≡ take i xs ++ x ∷ [] =
    rw (add-one i) (take-suc xs i x (omega arith) ∙ ap (λ y. take i xs ++ y ∷ []) (sym c.value-item.is)) in
    ap items c.in_ok-push.ensures.ok ∙ items_push l.values (view c.in_ok-copy.field-0)
    ∙ ap (λ ys. ys ++ view c.in_ok-copy.field-0 ∷ []) l.invariant
    ∙ ap (λ (v : Value). stack_view (take i xs) ++ view v ∷ []) c.in_ok-copy.ensures ∙ sym (stack_push (take i xs) x)
    ∙ ap stack_view (sym more)

use Rattle.std.proofs.Common.{◌≡◌, ◌+◌, ◌++◌, [], ◌∷◌, take, sym, ap, ◌∙◌, arith, add-one, take-suc, append_assoc}
use Rattle.std.proofs.lemmas.List.{take_all}
use Rattle.sky_base.specs.Val.{vals_refs, refs}
use Rattle.sky_base.specs.View.{view}
use Rattle.sky_state.specs.Pending.{stack_refs}
use Rattle.sky_state.specs.StandView.{stack_view}
use Rattle.sky_state.proofs.Gathers.{stack_push}
use Rattle.sky_state.proofs.state.add_all.Goals as goal

pub loop-value-preserved : goal.loop-value-preserved
loop-value-preserved c =
    let xs = c.args.stack.now in
    let i = c.loop-value.value-index in
    let x = c.value-item.result in
    let more : take (i + 1) xs ≡ take i xs ++ x ∷ [] =
    rw (add-one i) (take-suc xs i x (omega arith) ∙ ap (λ y. take i xs ++ y ∷ []) (sym c.value-item.is)) in
    c.in_ok-add.ensures
    ∙ ap (λ ds. ds ++ refs (view x)) c.loop-value.invariant
    ∙ append_assoc (vals_refs c.args.values.now) (stack_refs (stack_view (take i xs))) (refs (view x))
    ∙ ap (λ ds. vals_refs c.args.values.now ++ ds) (sym (stack_push (take i xs) x))
    ∙ ap (λ ys. vals_refs c.args.values.now ++ stack_refs (stack_view ys)) (sym more)

pub returns : goal.returns
returns c =
    c.loop-value.invariant ∙ ap (λ ys. vals_refs c.args.values.now ++ stack_refs (stack_view ys))
    (take_all c.loop-value.value-index c.args.stack.now (omega arith))

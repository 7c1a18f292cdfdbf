use Rattle.std.proofs.Common.{◌≡◌, ◌+◌, ◌++◌, [], ◌∷◌, take, sym, ap, ◌∙◌, arith, add-one, take-suc, append_assoc}
use Rattle.sky_base.specs.Val.{vals_refs, pairs_refs}
use Rattle.sky_state.specs.Pending.{frames_refs, stack_refs}
use Rattle.sky_state.specs.StandView.{stack_view, frames_view}
use Rattle.sky_state.proofs.Gathers.{frames_push}
use Rattle.sky_state.proofs.state.all_values.Goals as goal

pub loop-frame-preserved : goal.loop-frame-preserved
loop-frame-preserved c =
    let xs = c.args.frames.now in
    let i = c.loop-frame.frame-index in
    let x = c.frame-item.result in
    let more : take (i + 1) xs ≡ take i xs ++ x ∷ [] =
    rw (add-one i) (take-suc xs i x (omega arith) ∙ ap (λ y. take i xs ++ y ∷ []) (sym c.frame-item.is)) in
    c.in_ok-add_all.ensures
    ∙ ap (λ ds. ds ++ stack_refs (stack_view c.as_slice.result.now)) c.in_ok-add_variables.ensures
    ∙ ap (λ vs. (vals_refs c.loop-frame.values ++ pairs_refs x.vars) ++ stack_refs vs) c.as_slice.ensures
    ∙ append_assoc (vals_refs c.loop-frame.values) (pairs_refs x.vars) (stack_refs x.stack)
    ∙ ap (λ ds. ds ++ (pairs_refs x.vars ++ stack_refs x.stack)) c.loop-frame.invariant
    ∙ sym (frames_push (take i xs) x)
    ∙ ap (λ ys. frames_refs (frames_view ys)) (sym more)

use Rattle.std.proofs.Common.{Result, Ok, Err, Some, IfOk, sym, ap, ◌∙◌}
use Rattle.sky_base.specs.ObjectView.{desc_view}
use Rattle.sky_plain.proofs.settle.advance.Goals as goal

if_ok : {T E : Type 0} (r : Result T E) (P Q : T → Type 0) → ((x : T) → P x → Q x) → IfOk r P → IfOk r Q
if_ok (Ok x) P Q f h = f x h
if_ok (Err e) P Q f h = tt

pub returns-in-Exec-clause-step : goal.returns-in-Exec-clause-step
returns-in-Exec-clause-step g c =
    if_ok c.executed.result _ _ (λ s h. h c.in-Exec.index
    (c.desc.ensures ∙ ap (λ d. Some (desc_view d)) (sym c.in_ok-desc.ensures ∙ c.in-Exec.is))) c.executed.ensures.step

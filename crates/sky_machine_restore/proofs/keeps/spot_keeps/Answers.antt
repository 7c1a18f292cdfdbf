use Rattle.std.proofs.Common.{◌≡◌, ◌+◌, suc, ◌∷◌, drop, sym, ap, ◌∙◌, arith, add-one, drop-cons}
use Rattle.sky_base.specs.TreeView.{at, exp_view, steps_view}
use Rattle.sky_machine_restore.specs.Kept.{kept_after}
use Rattle.sky_machine_restore.proofs.KeptCounts.{at_index, at_call, arg_keeps, body_keeps, after_keeps, index_keeps}
use Rattle.sky_machine_restore.proofs.keeps.spot_keeps.Goals as goal
use Rattle.sky_machine_restore.proofs.keeps.spot_keeps.Goals.{in-Index+else-left-eq0, in-Call+else-left-args+else-left-args-2}

pub returns-then-left-args : goal.returns-then-left-args
returns-then-left-args c =
    let l = c.loop-step in
    let xs = c.args.steps.now in
    let i = l.step-index in
    let x = c.step-item.result in
    let more : drop i xs ≡ x ∷ drop (i + 1) xs =
    rw (add-one i) (drop-cons xs i x (omega arith) ∙ ap (λ y. y ∷ drop (suc i) xs) (sym c.step-item.is)) in
    let es = c.as_slice-args.result.now in
    sym (l.invariant ∙ ap (λ ys. kept_after (steps_view ys) l.left) more
    ∙ at_call x c.in-Call.args es c.in-Call.line c.in-Call.col (drop (i + 1) xs) l.left c.in-Call.is c.as_slice-args.ensures
    ∙ arg_keeps es (at c.in-Call.line c.in-Call.col) (steps_view (drop (i + 1) xs)) l.left c.if-left-args.true)

pub returns-then-left-args-2 : goal.returns-then-left-args-2
returns-then-left-args-2 c =
    let l = c.loop-step in
    let xs = c.args.steps.now in
    let i = l.step-index in
    let x = c.step-item.result in
    let more : drop i xs ≡ x ∷ drop (i + 1) xs =
    rw (add-one i) (drop-cons xs i x (omega arith) ∙ ap (λ y. y ∷ drop (suc i) xs) (sym c.step-item.is)) in
    let es = c.as_slice-args.result.now in
    sym (l.invariant ∙ ap (λ ys. kept_after (steps_view ys) l.left) more
    ∙ at_call x c.in-Call.args es c.in-Call.line c.in-Call.col (drop (i + 1) xs) l.left c.in-Call.is c.as_slice-args.ensures
    ∙ body_keeps es (at c.in-Call.line c.in-Call.col) (steps_view (drop (i + 1) xs)) l.left c.if-left-args-2.true)

pub loop-step-preserved : goal.loop-step-preserved
loop-step-preserved c =
    let l = c.loop-step in
    let xs = c.args.steps.now in
    let i = l.step-index in
    let x = c.step-item.result in
    let rest = drop (i + 1) xs in
    let more : drop i xs ≡ x ∷ drop (i + 1) xs =
    rw (add-one i) (drop-cons xs i x (omega arith) ∙ ap (λ y. y ∷ drop (suc i) xs) (sym c.step-item.is)) in
    let front = l.invariant ∙ ap (λ ys. kept_after (steps_view ys) l.left) more in
    let step : kept_after (steps_view (x ∷ rest)) l.left ≡ kept_after (steps_view rest) c.match-step.left =
    elim c.match-step.branch [
      | in-Index+else-left-eq0 w ↦ at_index x w.in-Index.at w.in-Index.line w.in-Index.col rest l.left w.in-Index.is
          ∙ index_keeps (exp_view w.in-Index.at) (at w.in-Index.line w.in-Index.col) (steps_view rest) l.left (omega (arith, w.if-left-eq0.false))
          ∙ ap (kept_after (steps_view rest)) (sym w.left-is)
      | in-Call+else-left-args+else-left-args-2 w ↦ at_call x w.in-Call.args
          w.as_slice-args.result.now w.in-Call.line w.in-Call.col rest l.left w.in-Call.is w.as_slice-args.ensures
          ∙ after_keeps w.as_slice-args.result.now (at w.in-Call.line w.in-Call.col) (steps_view rest) l.left
          (omega (arith, w.if-left-args.false, w.if-left-args-2.false)) ∙ ap (kept_after (steps_view rest)) (sym w.left-is)
    ] in
    front ∙ step

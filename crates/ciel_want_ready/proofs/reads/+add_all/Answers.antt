use Rattle.std.proofs.Common.{◌≡◌, ◌+◌, ◌∷◌, suc, drop, sym, ap, ◌∙◌, add-one, drop-cons, arith}
use Rattle.sky_base.specs.Val.{pairs_refs, refs, vals_refs}
use Rattle.sky_base.specs.View.{pairs_of, vals_of, view}
use Rattle.ciel_want_ready.specs.Reading.{and_all}
use Rattle.ciel_want_ready.proofs.FirstTwoRefs.{all_append, more_stays}
use Rattle.ciel_want_ready.proofs.reads.+add_all.Goals as goal

pub add_pairs-returns-then-is_more : goal.add_pairs-returns-then-is_more
add_pairs-returns-then-is_more t c =
    sym (c.loop-pair.invariant
    ∙ more_stays c.loop-pair.found (pairs_refs (pairs_of (drop c.loop-pair.pair-index c.args.pairs.now))) (sym c.is_more.ensures ∙ c.if-is_more.true))

pub add_values-returns-then-is_more : goal.add_values-returns-then-is_more
add_values-returns-then-is_more t c =
    sym (c.loop-value.invariant
    ∙ more_stays c.loop-value.found (vals_refs (vals_of (drop c.loop-value.value-index c.args.values.now)))
    (sym c.is_more.ensures ∙ c.if-is_more.true))

pub add_pairs-loop-pair-preserved : goal.add_pairs-loop-pair-preserved
add_pairs-loop-pair-preserved t c =
    let ps = c.args.pairs.now in
    let i = c.loop-pair.pair-index in
    let x = c.pair-item.result in
    let cut : drop i ps ≡ x ∷ drop (i + 1) ps = rw (add-one i)
    (drop-cons ps i x (omega arith) ∙ ap (λ y. y ∷ drop (suc i) ps) (sym c.pair-item.is)) in
    c.loop-pair.invariant
    ∙ (ap (λ ys. and_all c.loop-pair.found (pairs_refs (pairs_of ys))) cut
    ∙ (all_append c.loop-pair.found (refs (view x.value)) (pairs_refs (pairs_of (drop (i + 1) ps)))
    ∙ ap (λ r. and_all r (pairs_refs (pairs_of (drop (i + 1) ps)))) (sym c.add_all.ensures)))

pub add_values-loop-value-preserved : goal.add_values-loop-value-preserved
add_values-loop-value-preserved t c =
    let vs = c.args.values.now in
    let i = c.loop-value.value-index in
    let x = c.value-item.result in
    let cut : drop i vs ≡ x ∷ drop (i + 1) vs = rw (add-one i)
    (drop-cons vs i x (omega arith) ∙ ap (λ y. y ∷ drop (suc i) vs) (sym c.value-item.is)) in
    c.loop-value.invariant
    ∙ (ap (λ ys. and_all c.loop-value.found (vals_refs (vals_of ys))) cut
    ∙ (all_append c.loop-value.found (refs (view x)) (vals_refs (vals_of (drop (i + 1) vs)))
    ∙ ap (λ r. and_all r (vals_refs (vals_of (drop (i + 1) vs)))) (sym c.add_all.ensures)))

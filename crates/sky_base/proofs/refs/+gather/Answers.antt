use Rattle.std.proofs.Common.{◌≡◌, ◌+◌, ◌∷◌, suc, drop, sym, ap, ◌∙◌, add-one, drop-cons, arith}
use Rattle.sky_base.specs.Val.{refs, vals_refs, pairs_refs}
use Rattle.sky_base.specs.Names.{known_of, gathered}
use Rattle.sky_base.specs.View.{view, vals_of, pairs_of}
use Rattle.sky_base.proofs.Gathers.{gathered-append}
use Rattle.sky_base.proofs.refs.+gather.Goals as goal

pub gather_all-loop-v-preserved : goal.gather_all-loop-v-preserved
gather_all-loop-v-preserved t c =
    let vs = c.args.vs.now in
    let i = c.loop-v.v-index in
    let x = c.v-item.result in
    let cut : drop i vs ≡ x ∷ drop (i + 1) vs = rw (add-one i) (drop-cons vs i x (omega arith) ∙ ap (λ y. y ∷ drop (suc i) vs) (sym c.v-item.is)) in
    c.loop-v.invariant
    ∙ ap (λ ys. gathered (known_of c.loop-v.found) (vals_refs (vals_of ys))) cut
    ∙ gathered-append (known_of c.loop-v.found) (refs (view x)) (vals_refs (vals_of (drop (i + 1) vs)))
    ∙ ap (λ ds. gathered ds (vals_refs (vals_of (drop (i + 1) vs)))) (sym c.in_ok-gather.ensures)

pub gather_pairs-loop-p-preserved : goal.gather_pairs-loop-p-preserved
gather_pairs-loop-p-preserved t c =
    let ps = c.args.ps.now in
    let i = c.loop-p.p-index in
    let x = c.p-item.result in
    let cut : drop i ps ≡ x ∷ drop (i + 1) ps = rw (add-one i) (drop-cons ps i x (omega arith) ∙ ap (λ y. y ∷ drop (suc i) ps) (sym c.p-item.is)) in
    c.loop-p.invariant
    ∙ ap (λ ys. gathered (known_of c.loop-p.found) (pairs_refs (pairs_of ys))) cut
    ∙ gathered-append (known_of c.loop-p.found) (refs (view x.value)) (pairs_refs (pairs_of (drop (i + 1) ps)))
    ∙ ap (λ ds. gathered ds (pairs_refs (pairs_of (drop (i + 1) ps)))) (sym c.in_ok-gather.ensures)

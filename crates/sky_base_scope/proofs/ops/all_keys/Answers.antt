use Rattle.std.proofs.Common.{◌≡◌, ◌+◌, suc, ◌∷◌, drop, sym, ap, ◌∙◌, add-one, drop-cons, arith}
use Rattle.sky_base.specs.Val.{text}
use Rattle.sky_base.specs.Op.{join, all_keys}
use Rattle.sky_base.specs.View.{pairs_of}
use Rattle.sky_base_scope.proofs.OpLaw.{join_step}
use Rattle.sky_base_scope.proofs.ops.all_keys.Goals as goal

pub loop-pair-preserved : goal.loop-pair-preserved
loop-pair-preserved c =
    let ps = c.as_slice-pair-items.result.now in
    let i = c.loop-pair.pair-index in
    let x = c.pair-item.result in
    let cut : drop i ps ≡ x ∷ drop (i + 1) ps =
    rw (add-one i) (drop-cons ps i x (omega arith) ∙ ap (λ y. y ∷ drop (suc i) ps) (sym c.pair-item.is)) in
    rw (c.in_ok-push.ensures.ok, c.in_ok-share.ensures)
    (join_step c.loop-pair.keys (all_keys (pairs_of (drop (i + 1) ps))) (text x.key)
    ∙ sym (ap (λ qs. join c.loop-pair.keys (all_keys (pairs_of qs))) cut) ∙ c.loop-pair.invariant)

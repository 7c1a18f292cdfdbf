use Rattle.std.proofs.Common.{◌≡◌, ◌+◌, drop, sym, ap, ap₂, subst, ◌∙◌, arith}
use Rattle.sky_base.specs.Op.{join, put}
use Rattle.sky_base.specs.Val.{add_val}
use Rattle.sky_base.specs.See.{replaced, vals_replaced, pairs_replaced}
use Rattle.sky_base.specs.View.{view, vals_of, pairs_of}
use Rattle.sky_base.proofs.Values.{value_inside, pair_inside}
use Rattle.sky_base_waves.proofs.Fills.{joined, Meets}
use Rattle.sky_base_exec.specs.Perform.{in_slot}
use Rattle.sky_base_exec.proofs.RefSlots.{vals_left, pairs_left, vals_step, pairs_step, meets_step}
use Rattle.sky_base_exec.proofs.slots.+slotted.Goals as goal

pub slotted_values-slotted-requires : goal.slotted_values-slotted-requires
slotted_values-slotted-requires t c =
    let left = vals_left c.args.values.now c.loop-value.value-index c.value-item.result c.loop-value-test.true c.value-item.is in
    let all = c.loop-value.invariant.left in
    let few = c.requires in
    let inside = value_inside c.args.values.now c.loop-value.value-index c.value-item.result c.loop-value-test.true c.value-item.is in
    (omega (arith, c.decreases, inside), omega (arith, left, all, few))

pub slotted_values-loop-value-preserved : goal.slotted_values-loop-value-preserved
slotted_values-loop-value-preserved t c =
    let xs = c.args.values.now in
    let i = c.loop-value.value-index in
    let x = c.value-item.result in
    let left = vals_left xs i x c.loop-value-test.true c.value-item.is in
    let all = c.loop-value.invariant.left in
    let next = c.in_ok-slotted.ensures.next in
    record {
      left = omega (arith, left, all, next);
      rest = c.loop-value.invariant.rest ∙ vals_step c.loop-value.all c.loop-value.next xs i x c.loop-value-test.true c.value-item.is
          ∙ ap₂ (λ front n. join front (vals_replaced in_slot n (vals_of (drop (i + 1) xs))))
          (ap (add_val c.loop-value.all) (sym c.in_ok-slotted.ensures.value) ∙ sym c.in_ok-push.ensures.ok) (sym next);
    }

pub slotted_pairs-slotted-requires : goal.slotted_pairs-slotted-requires
slotted_pairs-slotted-requires t c =
    let left = pairs_left c.args.pairs.now c.loop-pair.pair-index c.pair-item.result c.loop-pair-test.true c.pair-item.is in
    let all = c.loop-pair.invariant.left in
    let few = c.requires.few in
    let inside = pair_inside c.args.pairs.now c.loop-pair.pair-index c.pair-item.result c.loop-pair-test.true c.pair-item.is in
    (omega (arith, c.decreases, inside), omega (arith, left, all, few))

pub slotted_pairs-loop-pair-preserved : goal.slotted_pairs-loop-pair-preserved
slotted_pairs-loop-pair-preserved t c =
    let xs = c.args.pairs.now in
    let i = c.loop-pair.pair-index in
    let x = c.pair-item.result in
    let left = pairs_left xs i x c.loop-pair-test.true c.pair-item.is in
    let all = c.loop-pair.invariant.left in
    let next = c.in_ok-value.ensures.next in
    let is_put : c.insert.new.self ≡ put x.key (replaced in_slot c.loop-pair.next (view x.value)) c.loop-pair.all = c.in_ok-insert.ensures.ok
    ∙ ap₂ (λ k v. put k v c.loop-pair.all) c.in_ok-share.ensures c.in_ok-value.ensures.value in
    record {
      left = omega (arith, left, all, next);
      meets = subst (λ q. Meets q (pairs_of (drop (i + 1) xs))) (sym is_put)
          (meets_step c.loop-pair.all xs i x (replaced in_slot c.loop-pair.next (view x.value)) c.loop-pair-test.true c.pair-item.is
          c.loop-pair.invariant.meets);
      rest = c.loop-pair.invariant.rest ∙ pairs_step c.loop-pair.all c.loop-pair.next xs i x c.loop-pair-test.true c.pair-item.is
          c.loop-pair.invariant.meets ∙ ap₂ (λ front n. joined front (pairs_replaced in_slot n (pairs_of (drop (i + 1) xs)))) (sym is_put)
          (sym next);
    }

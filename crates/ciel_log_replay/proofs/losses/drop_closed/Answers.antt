use Rattle.std.proofs.Common.{◌≡◌, suc, ◌+◌, ap, refl, ◌∙◌, arith, slice_index_or, slice_set}
use Rattle.ciel_log_replay.specs.Steps.{while_out}
use Rattle.ciel_log_replay.proofs.Swept.{swept, swept_all, swept_next}
use Rattle.ciel_log_replay.proofs.losses.drop_closed.Goals as goal

pub loop-slot-init : goal.loop-slot-init
loop-slot-init g c = refl

pub loop-slot-preserved : goal.loop-slot-preserved
loop-slot-preserved g c =
    let b = c.args.master.now.board in
    let xs = c.args.out.now in
    let at = c.loop-slot.slot-index in
    let item = c.slot-item.result in
    let below = c.loop-slot-test.true in
    let long = c.loop-slot.auto.out in
    let is : suc at ≡ at + 1 = omega arith in
    ap (λ z. slice_set c.loop-slot.out at z) c.drop_one.ensures.slot
    ∙ (ap (λ o. slice_set o at (while_out b (slice_index_or o at item))) c.loop-slot.invariant
    ∙ (swept_next (while_out b) at xs item (omega (arith, below, long)) ∙ ap (λ n. swept (while_out b) n xs) is))

pub returns : goal.returns
returns g c =
    let b = c.args.master.now.board in
    let xs = c.args.out.now in
    let over = c.loop-slot-test.false in
    let long = c.loop-slot.auto.out in
    record { out = c.loop-slot.invariant ∙ swept_all (while_out b) c.loop-slot.slot-index xs (omega (arith, over, long)) }

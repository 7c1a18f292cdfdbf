-- One more.
use Rattle.std.proofs.Common.{◌≤◌, ℕ, arith, get_or}
use Rattle.ciel_look_text.proofs.Sums.{element_is, sum_end, sum_next, sum_start}
use Rattle.ciel_look_text.proofs.order.total.Goals as goal

pub loop-weight-init : goal.loop-weight-init
loop-weight-init c = record { left = sum_start (λ (w : ℕ). w) c.args.weights.now; small = omega arith }

pub loop-weight-preserved : goal.loop-weight-preserved
loop-weight-preserved c =
    let l = c.loop-weight in
    let ws = c.args.weights.now in
    record {
      left = sum_next (λ (w : ℕ). w) ws l.sum _ l.weight-index (get_or ws l.weight-index 0) (omega arith) (element_is ws l.weight-index (omega arith))
          l.invariant.left c.saturating_add-sum.ensures;
      small = omega (arith, c.saturating_add-sum.ensures);
    }

pub returns : goal.returns
returns c =
    let l = c.loop-weight in
    sum_end (λ (w : ℕ). w) c.args.weights.now l.sum l.weight-index (omega arith) l.invariant.small l.invariant.left

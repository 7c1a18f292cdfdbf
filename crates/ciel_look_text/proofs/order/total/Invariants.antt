-- What was summed up so far, and what is left.
use Rattle.std.proofs.Common.{◌≤◌, ◌-◌, ◌^◌, ℕ}
use Rattle.ciel_look_text.proofs.Sums.{SumLeft}
use Rattle.ciel_look_text.proofs.order.total.Given as goal

abbrev pub invariant-loop-weight : goal.invariant-loop-weight
invariant-loop-weight l =
    record {
      left : SumLeft (λ (w : ℕ). w) l.weights l.sum l.weight-index;
      small : l.sum ≤ 2 ^ 64 - 1;
    }

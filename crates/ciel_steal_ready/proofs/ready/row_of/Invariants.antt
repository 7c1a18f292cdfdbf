use Rattle.std.proofs.Common.{◌≡◌}
use Rattle.std.specs.Prelude.{All}
use Rattle.ciel_steal_ready.specs.Balance.{idle}
use Rattle.ciel_steal_ready.proofs.ready.row_of.Given as goal

abbrev pub invariant-loop-at : goal.invariant-loop-at
invariant-loop-at g l = All (λ v. v ≡ idle) l.others.items

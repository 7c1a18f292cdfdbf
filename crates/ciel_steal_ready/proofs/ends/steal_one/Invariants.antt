use Rattle.std.proofs.Common.{◌≡◌, take}
use Rattle.std.specs.Prelude.{All}
use Rattle.ciel_steal_ready.proofs.ends.steal_one.Given as goal

abbrev pub invariant-loop-at : goal.invariant-loop-at
invariant-loop-at g l = (l.others.items ≡ l.fn.others.items) × All g.M.Outcome.empty (take l.at l.fn.others.items)

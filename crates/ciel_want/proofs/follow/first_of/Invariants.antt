use Rattle.std.proofs.Common.{◌≡◌, drop}
use Rattle.ciel_want.specs.Board.{first_unmet}
use Rattle.ciel_want.proofs.follow.first_of.Given as goal

abbrev pub invariant-loop-i : goal.invariant-loop-i
invariant-loop-i g l = first_unmet l.table (drop l.i l.names) ≡ first_unmet l.table l.names

use Rattle.std.proofs.Common.{◌≡◌, ◌++◌, drop}
use Rattle.ciel_want.specs.Board.{blockers_of}
use Rattle.ciel_want.proofs.needs.blockers_of.Given as goal

abbrev pub invariant-loop-i : goal.invariant-loop-i
invariant-loop-i g l = l.rows.items ++ blockers_of l.table (drop l.i l.names) ≡ blockers_of l.table l.names

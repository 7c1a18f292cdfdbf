use Rattle.std.proofs.Common.{◌≡◌, ◌++◌, drop, length}
use Rattle.ciel_want.specs.Board.{names_at}
use Rattle.ciel_want.specs.Marked.{AllBelow}
use Rattle.ciel_want.proofs.follow.names_of.Given as goal

abbrev pub invariant-loop-i : goal.invariant-loop-i
invariant-loop-i g l =
    record {
      below : AllBelow (length l.table.rows) (drop l.i l.rows);
      named : l.names ++ names_at l.table (drop l.i l.rows) ≡ names_at l.table l.rows;
    }

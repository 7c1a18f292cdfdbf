use Rattle.std.proofs.Common.{◌≡◌, drop}
use Rattle.ciel_want.specs.Board.{rows_whole}
use Rattle.ciel_want.proofs.whole.rows_whole.Given as goal

abbrev pub invariant-loop-id : goal.invariant-loop-id
invariant-loop-id g l = rows_whole l.main l.table (drop l.id l.table.rows) ≡ rows_whole l.main l.table l.table.rows

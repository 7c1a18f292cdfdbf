use Rattle.std.proofs.Common.{◌≡◌, []}
use Rattle.ciel_table_tests.proofs.rows.play.Given as goal

abbrev pub invariant-loop-i : goal.invariant-loop-i
invariant-loop-i g l = l.table.gone ≡ []

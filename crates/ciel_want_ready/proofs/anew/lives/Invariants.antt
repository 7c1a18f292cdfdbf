use Rattle.std.proofs.Common.{◌≡◌, ◌++◌, drop, map}
use Rattle.ciel_table.specs.Seen.{is_live_row}
use Rattle.ciel_want_ready.proofs.anew.lives.Given as goal

abbrev pub invariant-loop-row : goal.invariant-loop-row
invariant-loop-row g l = l.flags.items ++ map is_live_row (drop l.row l.table.rows) ≡ map is_live_row l.table.rows

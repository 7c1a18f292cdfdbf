use Rattle.std.proofs.Common.{◌≡◌, length}
use Rattle.ciel_steal_ready.proofs.ready.rows_of.Given as goal

abbrev pub invariant-loop-seat : goal.invariant-loop-seat
invariant-loop-seat g l = length l.rows.items ≡ l.seat

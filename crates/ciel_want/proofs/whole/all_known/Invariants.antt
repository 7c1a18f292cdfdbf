use Rattle.std.proofs.Common.{◌≡◌, drop}
use Rattle.ciel_want.specs.Board.{all_known}
use Rattle.ciel_want.proofs.whole.all_known.Given as goal

abbrev pub invariant-loop-i : goal.invariant-loop-i
invariant-loop-i g l = all_known l.table (drop l.i l.names) ≡ all_known l.table l.names

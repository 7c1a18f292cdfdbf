-- Those so far are as long.
use Rattle.std.proofs.Common.{◌≡◌, drop, length}
use Rattle.ciel_memo_file.specs.Steps.{same_lengths}
use Rattle.ciel_memo_file.proofs.memo.are_as_long.Given as goal

abbrev pub invariant-loop-i : goal.invariant-loop-i
invariant-loop-i l = record {
  even : length l.a ≡ length l.b;
  rest : same_lengths l.a l.b ≡ same_lengths (drop l.i l.a) (drop l.i l.b);
}

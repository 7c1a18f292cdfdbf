-- The entries so far are a file, and what is left stands behind them.
use Rattle.std.proofs.Common.{◌≡◌, ◌∷◌, ◌++◌, length}
use Rattle.ciel_memo_file.specs.File.{IsMemo, file_bytes}
use Rattle.ciel_memo_file.specs.Steps.{Placed, seen}
use Rattle.ciel_memo_file.proofs.read.gather.Given as goal

abbrev pub invariant-loop-left : goal.invariant-loop-left
invariant-loop-left l = record {
  bytes : 77 ∷ 1 ∷ l.fn.rest ≡ file_bytes (seen l.gathered) ++ l.left;
  memo : IsMemo (file_bytes (seen l.gathered)) (seen l.gathered);
  placed : Placed (seen l.gathered) l.gathered.places.entries;
}

abbrev pub decreases-loop-left : goal.decreases-loop-left
decreases-loop-left l = length l.left

use Rattle.std.proofs.Common.{length, ◌-◌, ◌≤◌, ◌<◌, take}
use Rattle.std.specs.Io.KnownBytes.{Consumes}
use Rattle.ciel_io.proofs.standing.standing.Given as goal

abbrev pub invariant-loop-at : goal.invariant-loop-at
invariant-loop-at g l = record {
  within : l.at ≤ length l.piece;
  window : 0 < length l.window;
  taken : Consumes (g.R.Read.remaining l.fn.reader) (g.R.Read.remaining l.reader) (take l.at l.piece);
}

abbrev pub decreases-loop-at : goal.decreases-loop-at
decreases-loop-at g l = length l.piece - l.at

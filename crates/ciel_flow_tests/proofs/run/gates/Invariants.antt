-- So many gates are there.
use Rattle.std.proofs.Common.{◌≡◌, length}
use Rattle.ciel_flow_tests.proofs.run.gates.Given as goal

abbrev pub invariant-loop-worker : goal.invariant-loop-worker
invariant-loop-worker l = length l.gates.items ≡ l._worker

-- The digits of the bytes so far were put, and no fault was taken back.
use Rattle.std.proofs.Common.{◌≡◌, ◌≤◌, ◌++◌, ℕ, List, length}
use Rattle.hex.specs.Hex.{encode_lower}
use Rattle.ciel_io.specs.Tells.{Tells}
use Rattle.ciel_run_log.proofs.text.put_hex.Given as goal

abbrev pub invariant-loop-rest : goal.invariant-loop-rest
invariant-loop-rest g l = record {
  written : (done : List ℕ) × (encode_lower l.bytes ≡ done ++ encode_lower l.rest)
      × Tells (g.J.Sink.written l.initial.sink) (g.J.Sink.written l.sink) done;
  never_falls : g.J.Sink.faults l.initial.sink ≤ g.J.Sink.faults l.sink;
}

abbrev pub decreases-loop-rest : goal.decreases-loop-rest
decreases-loop-rest g l = length l.rest

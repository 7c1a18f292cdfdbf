-- The pieces so far were put, and no fault was taken back.
use Rattle.std.proofs.Common.{◌≤◌, map, take}
use Rattle.std.specs.List.{concat}
use Rattle.ciel_io.specs.Tells.{Tells}
use Rattle.ciel_io.proofs.pieces.put_all.Given as goal

abbrev pub invariant-loop-piece : goal.invariant-loop-piece
invariant-loop-piece g l = record {
  written : Tells (g.J.Sink.written l.initial.sink) (g.J.Sink.written l.sink) (concat (map (λ p. p.now) (take l.piece-index l.pieces)));
  never_falls : g.J.Sink.faults l.initial.sink ≤ g.J.Sink.faults l.sink;
}

use Rattle.std.proofs.Common.{◌≡◌, ◌≤◌, None, vec_capacity}
use Rattle.std.specs.Prelude.{replicate}
use Rattle.ciel_flow.proofs.streams.no_streams.Given as goal

abbrev pub invariant-loop-lane : goal.invariant-loop-lane
invariant-loop-lane l = record {
  none : l.all.items ≡ replicate l._lane None;
  room : l.many ≤ vec_capacity l.all;
}

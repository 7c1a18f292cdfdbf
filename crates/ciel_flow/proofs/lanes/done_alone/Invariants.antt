use Rattle.std.proofs.Common.{◌≡◌, ◌+◌, ◌≤◌, ◌++◌, length, vec_capacity}
use Rattle.ciel_flow_work.specs.Flowing.{done_of}
use Rattle.ciel_flow.proofs.lanes.done_alone.Given as goal

abbrev pub invariant-loop-lane : goal.invariant-loop-lane
invariant-loop-lane g l = record {
  left : l.all.items ++ done_of l.lane-iterator.rest.items ≡ done_of l.fn.outs.items;
  room : length l.all.items + length l.lane-iterator.rest.items ≤ vec_capacity l.all;
}

use Rattle.std.proofs.Common.{◌≡◌, ℕ, false, length}
use Rattle.ciel_crew_lanes.specs.Seen.{lane_at}
use Rattle.ciel_flow_work.specs.Flowing.{as_crew, follows}
use Rattle.ciel_flow.specs.Streaming.{Match}
use Rattle.ciel_flow.proofs.lanes.take_ahead.Given as goal

abbrev pub invariant-loop-at : goal.invariant-loop-at
invariant-loop-at g l = record {
  many : length l.streams.items ≡ length l.fn.streams.items;
  lanes : length l.lanes ≡ length l.fn.lanes;
  agree : Match g.N.Namer.digest l.shop l.lanes l.streams.items;
  same : as_crew l.lanes ≡ as_crew l.fn.lanes;
  still : (k : ℕ) → follows (lane_at l.fn.lanes k).out ≡ false → follows (lane_at l.lanes k).out ≡ false;
}

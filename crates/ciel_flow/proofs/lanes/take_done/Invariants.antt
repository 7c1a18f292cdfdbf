use Rattle.std.proofs.Common.{◌≡◌}
use Rattle.ciel_flow_work.specs.Flowing.{as_crew}
use Rattle.ciel_flow.specs.Streaming.{Match}
use Rattle.ciel_flow.proofs.lanes.take_done.Given as goal

abbrev pub invariant-loop : goal.invariant-loop
invariant-loop g l = record {
  agree : Match g.N.Namer.digest l.shop l.lanes l.streams.items;
  same : as_crew l.lanes ≡ as_crew l.fn.lanes;
}

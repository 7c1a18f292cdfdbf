use Rattle.std.specs.Prelude.{IfSome}
use Rattle.ciel_flow.specs.Streaming.{IsFree}
use Rattle.ciel_flow.proofs.begin.free_lane.Given as goal

abbrev pub invariant-loop-at : goal.invariant-loop-at
invariant-loop-at g l = IfSome l.found (IsFree l.lanes l.worker)

use Rattle.line_flow.specs.Kept.{AreEmpty}
use Rattle.line_flow.proofs.turns.empty_streams.Given as goal

abbrev pub invariant-loop-i : goal.invariant-loop-i
invariant-loop-i l = AreEmpty l.outs.items l._i

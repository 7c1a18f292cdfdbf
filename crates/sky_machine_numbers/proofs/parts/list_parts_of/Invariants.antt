use Rattle.std.proofs.Common.{◌+◌, ◌-◌}
use Rattle.sky_machine_numbers.proofs.PartsLemmas.{Begun}
use Rattle.sky_machine_numbers.proofs.parts.list_parts_of.Given as goal

abbrev pub invariant-loop-at : goal.invariant-loop-at
invariant-loop-at l = Begun l.ends l.fn.parts.items l.parts.items (l.node + 1) l.at l.end

abbrev pub decreases-loop-at : goal.decreases-loop-at
decreases-loop-at l = l.end - l.at

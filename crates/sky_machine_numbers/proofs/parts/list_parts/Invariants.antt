use Rattle.sky_machine_numbers.proofs.PartsLemmas.{PartedTo}
use Rattle.sky_machine_numbers.proofs.parts.list_parts.Given as goal

abbrev pub invariant-loop-node : goal.invariant-loop-node
invariant-loop-node l = PartedTo l.ends l.firsts.items l.parts.items l.node

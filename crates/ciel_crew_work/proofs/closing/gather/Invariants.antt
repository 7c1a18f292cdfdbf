use Rattle.std.proofs.Common.{◌≡◌, ◌+◌, ◌≤◌, ◌++◌, length, vec_capacity}
use Rattle.ciel_crew_work.specs.Crewed.{gathered}
use Rattle.ciel_crew_work.proofs.closing.gather.Given as goal

abbrev pub invariant-loop-tools : goal.invariant-loop-tools
invariant-loop-tools g l =
    (l.gates.items ++ gathered l.tools-iterator.rest.items l.outs.rest.items ≡ gathered l.fn.idle.items l.fn.done.items)
    × (length l.gates.items + length l.tools-iterator.rest.items ≤ vec_capacity l.gates)

use Rattle.std.proofs.Common.{◌≡◌, ◌+◌, ◌≤◌, ◌++◌, length, vec_capacity}
use Rattle.ciel_crew_work.specs.Crewed.{tools_of}
use Rattle.ciel_crew_work.proofs.opening.equipped.Given as goal

abbrev pub invariant-loop-gate : goal.invariant-loop-gate
invariant-loop-gate g l =
    (l.tools.items ++ tools_of l.gate-iterator.rest.items l.eyes.rest.items ≡ tools_of l.fn.gates.items l.fn.eyes.items)
    × (length l.eyes.rest.items ≡ length l.gate-iterator.rest.items)
    × (length l.tools.items + length l.gate-iterator.rest.items ≤ vec_capacity l.tools)

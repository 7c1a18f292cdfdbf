use Rattle.std.proofs.Common.{◌≡◌, ◌+◌, ◌≤◌, ◌++◌, length, vec_capacity}
use Rattle.ciel_crew_rounds.specs.Seats.{seats_of}
use Rattle.ciel_crew_rounds.proofs.seat.seated.Given as goal

abbrev pub invariant-loop-gate : goal.invariant-loop-gate
invariant-loop-gate g l =
    (l.seats.items ++ seats_of l.gate-iterator.rest.items l.eyes.rest.items ≡ seats_of l.fn.gates.items l.fn.eyes.items)
    × (length l.eyes.rest.items ≡ length l.gate-iterator.rest.items)
    × (length l.seats.items + length l.gate-iterator.rest.items ≤ vec_capacity l.seats)

use Rattle.std.proofs.Common.{◌≡◌, ◌+◌, ◌≤◌, ◌++◌, length, vec_capacity}
use Rattle.ciel_crew_rounds.specs.Seats.{gates_in}
use Rattle.ciel_crew_rounds.proofs.seat.gates_of.Given as goal

abbrev pub invariant-loop-seat : goal.invariant-loop-seat
invariant-loop-seat g l =
    (l.gates.items ++ gates_in l.seat-iterator.rest.items ≡ gates_in l.fn.seats.items)
    × (length l.gates.items + length l.seat-iterator.rest.items ≤ vec_capacity l.gates)

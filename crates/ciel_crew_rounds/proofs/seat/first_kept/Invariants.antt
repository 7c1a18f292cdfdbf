use Rattle.std.proofs.Common.{◌≡◌, ◌<◌, ℕ, None}
use Rattle.ciel_crew_rounds.specs.Seats.{kept_of, seat_at}
use Rattle.ciel_crew_rounds.proofs.seat.first_kept.Given as goal

abbrev pub invariant-loop-worker : goal.invariant-loop-worker
invariant-loop-worker g l = (k : ℕ) → k < l.worker → kept_of (seat_at l.seats k) ≡ None

use Rattle.std.proofs.Common.{◌≡◌, ◌<◌, ℕ, None}
use Rattle.ciel_crew_rounds.specs.Seats.{CanPlay, GoEach, away_of, seat_at, sent_of}
use Rattle.ciel_crew_rounds.proofs.round.take_all.Given as goal

abbrev pub invariant-loop-worker : goal.invariant-loop-worker
invariant-loop-worker g l =
    CanPlay g.K.Kit.gives g.N.Namer.digest l.lanes l.seats.items
    × GoEach g.K.Kit.gives g.N.Namer.digest g.G.Gate.entered l.fn.seats.items l.seats.items
    × ((k : ℕ) → sent_of (seat_at l.seats.items k) ≡ None)
    × ((k : ℕ) → k < l.worker → away_of (seat_at l.seats.items k) ≡ None)

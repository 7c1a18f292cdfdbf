use Rattle.std.proofs.Common.{◌≡◌, ◌+◌, [], length, vec_capacity, None}
use Rattle.std.specs.Prelude.{All}
use Rattle.ciel_crew_lanes.proofs.lanes.Lanes.open.Given as goal

abbrev pub invariant-loop-place : goal.invariant-loop-place
invariant-loop-place g l = (length l.all.items + length l.place-iterator.rest.items ≡ l.fn.lanes) × (vec_capacity l.all ≡ l.fn.lanes)
    × All (λ x. x ≡ record { put = []; out = None }) l.all.items

-- The ends that hear so far are at the channel, and have heard nothing.
use Rattle.std.proofs.Common.{◌≡◌, [], replicate}
use Rattle.crossbeam_channel.specs.Claims.{IsSeatAt}
use Rattle.crossbeam_channel.specs.Ends.{sends_on, receives_on, ruled_capacity}
use Rattle.ciel_crew_lanes.specs.Seen.{known}
use Rattle.ciel_crew_lanes.proofs.bells.bells_of.Given as goal

abbrev pub invariant-loop : goal.invariant-loop
invariant-loop g l =
    IsSeatAt (sends_on l.to) l.pass × (receives_on l.from ≡ sends_on l.to) × (ruled_capacity (sends_on l.to) ≡ l.fn.room) × (known l.pass ≡ [])
    × (l.all.items ≡ replicate l.counter (record { at = l.pass.table_id; room = ruled_capacity (sends_on l.to); bells = [] }))

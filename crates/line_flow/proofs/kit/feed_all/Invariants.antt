use Rattle.std.proofs.Common.{◌≡◌, length}
use Rattle.line_flow.specs.Told.{Told, CanFeed, fed_more}
use Rattle.line_flow.specs.Stands.{Stands}
use Rattle.line_flow.proofs.kit.feed_all.Given as goal

abbrev pub invariant-loop-rest : goal.invariant-loop-rest
invariant-loop-rest l =
    (t : Told) → Stands l.fn.flow t → CanFeed t l.input
    → (u : Told) × Stands l.flow u × CanFeed u l.input × (fed_more u l.input l.rest ≡ fed_more t l.input l.bytes)

abbrev pub decreases-loop-rest : goal.decreases-loop-rest
decreases-loop-rest l = length l.rest

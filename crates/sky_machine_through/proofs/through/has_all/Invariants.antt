use Rattle.std.proofs.Common.{Bool, length}
use Rattle.sky_base.specs.Names.{known_of}
use Rattle.sky_machine_through.specs.Found.{FoundIf}
use Rattle.sky_machine_through.proofs.through.has_all.Given as goal

abbrev pub invariant-names : goal.invariant-names
invariant-names g l = (b : Bool) → FoundIf (g.F.Finds.finds l.finder) b (known_of l.rest) → FoundIf (g.F.Finds.finds l.finder) b (known_of l.names)

abbrev pub decreases-names : goal.decreases-names
decreases-names g l = length l.rest

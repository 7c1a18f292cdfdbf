-- All are found exactly where those that are left are.
use Rattle.std.proofs.Common.{drop}
use Rattle.sky_frozen.specs.Keys.{AllFound}
use Rattle.sky_frozen.proofs.keys.all_found.Given as goal

abbrev pub invariant-loop-name : goal.invariant-loop-name
invariant-loop-name l =
    (AllFound l.keys (drop l.name-index l.names) → AllFound l.keys l.names) × (AllFound l.keys l.names → AllFound l.keys (drop l.name-index l.names))

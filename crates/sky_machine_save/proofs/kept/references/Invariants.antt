-- The references so far are those to the names so far.
use Rattle.std.proofs.Common.{◌≡◌, take}
use Rattle.sky_base.specs.Val.{refs_to}
use Rattle.sky_base.specs.Names.{known_of}
use Rattle.sky_machine_save.proofs.kept.references.Given as goal

abbrev pub invariant-loop-name : goal.invariant-loop-name
invariant-loop-name l = l.values ≡ refs_to (known_of (take l.name-index l.name-items))

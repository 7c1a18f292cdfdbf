use Rattle.std.proofs.Common.{◌≡◌, drop}
use Rattle.sky_base.specs.Val.{refs_to}
use Rattle.sky_base.specs.Op.{join}
use Rattle.sky_base.specs.Names.{known_of}
use Rattle.sky_base_forms.proofs.forms.references.Given as goal

abbrev pub invariant-loop-name : goal.invariant-loop-name
invariant-loop-name l = join l.refs (refs_to (known_of (drop l.name-index l.name-items))) ≡ refs_to (known_of l.name-items)

use Rattle.std.proofs.Common.{◌≡◌, take}
use Rattle.sky_machine_parts.proofs.formed.wait_for.Given as goal

abbrev pub invariant-loop-name : goal.invariant-loop-name
invariant-loop-name l = l.waited ≡ take l.name-index l.name-items

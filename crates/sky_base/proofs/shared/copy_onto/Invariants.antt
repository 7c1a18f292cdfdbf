use Rattle.std.proofs.Common.{◌≡◌, ◌++◌, take}
use Rattle.sky_base.proofs.shared.copy_onto.Given as goal

abbrev pub invariant-loop-item : goal.invariant-loop-item
invariant-loop-item g l = l.own.items ≡ l.initial.own.items ++ take l.item-index l.items

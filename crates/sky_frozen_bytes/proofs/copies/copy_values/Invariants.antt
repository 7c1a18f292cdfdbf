-- The copies so far are the values so far.
use Rattle.std.proofs.Common.{◌≡◌, take}
use Rattle.sky_frozen_bytes.proofs.copies.copy_values.Given as goal

abbrev pub invariant-loop-value : goal.invariant-loop-value
invariant-loop-value l = l.copies.items ≡ take l.value-index l.values

use Rattle.std.proofs.Common.{◌≡◌, drop}
use Rattle.sky_base.specs.Op.{join, all_keys}
use Rattle.sky_base.specs.View.{pairs_of}
use Rattle.sky_base_scope.proofs.ops.all_keys.Given as goal

abbrev pub invariant-loop-pair : goal.invariant-loop-pair
invariant-loop-pair l = join l.keys (all_keys (pairs_of (drop l.pair-index l.pair-items))) ≡ all_keys (pairs_of l.pair-items)

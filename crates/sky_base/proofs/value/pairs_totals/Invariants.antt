use Rattle.std.proofs.Common.{◌≡◌, ◌+◌, ◌-◌, ◌^◌, min, max, drop, ◌≤◌}
use Rattle.sky_base.specs.Val.{pair_sizes, pair_depths}
use Rattle.sky_base.specs.View.{pairs_of}
use Rattle.sky_base.proofs.value.pairs_totals.Given as goal

abbrev pub invariant-loop-p : goal.invariant-loop-p
invariant-loop-p l = record {
  size : min (l.all.size + pair_sizes (pairs_of (drop l.p-index l.items))) (2 ^ 64 - 1) ≡ min (pair_sizes (pairs_of l.items)) (2 ^ 64 - 1);
  size_fits : l.all.size ≤ 2 ^ 64 - 1;
  depth_fits : l.all.depth ≤ 2 ^ 32 - 1;
  depth : min (max l.all.depth (pair_depths (pairs_of (drop l.p-index l.items)))) (2 ^ 32 - 1) ≡ min (pair_depths (pairs_of l.items)) (2 ^ 32 - 1);
}

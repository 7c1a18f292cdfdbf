use Rattle.std.proofs.Common.{◌≡◌, ◌+◌, ◌-◌, ◌^◌, min, max, drop, ◌≤◌}
use Rattle.sky_base.specs.Val.{sizes, depths}
use Rattle.sky_base.specs.View.{vals_of}
use Rattle.sky_base.proofs.value.vals_totals.Given as goal

abbrev pub invariant-loop-v : goal.invariant-loop-v
invariant-loop-v l = record {
  size : min (l.all.size + sizes (vals_of (drop l.v-index l.items))) (2 ^ 64 - 1) ≡ min (sizes (vals_of l.items)) (2 ^ 64 - 1);
  size_fits : l.all.size ≤ 2 ^ 64 - 1;
  depth_fits : l.all.depth ≤ 2 ^ 32 - 1;
  depth : min (max l.all.depth (depths (vals_of (drop l.v-index l.items)))) (2 ^ 32 - 1) ≡ min (depths (vals_of l.items)) (2 ^ 32 - 1);
}

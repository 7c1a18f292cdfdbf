use Rattle.std.proofs.Common.{◌≡◌, ◌≤◌, ◌<◌, ◌-◌, length, nat_cmp, get_or}
use Rattle.std.specs.Cmp.Lexicographic.{slice_cmp}
use Rattle.std.specs.declared.cmp.Ordering.{Ordering}
use Rattle.sky_base.specs.Place.{Passed}
use Rattle.sky_base.specs.declared.value.Pair.{Pair}
use Rattle.sky_base.proofs.place.place.Given as goal

abbrev pub invariant-loop-low : goal.invariant-loop-low
invariant-loop-low l = record {
  order : l.low ≤ l.high;
  within : l.high ≤ length l.items;
  passed : Passed l.items l.key l.low;
  above : (d : Pair) → l.high < length l.items → slice_cmp nat_cmp l.key (get_or l.items l.high d).key ≡ Ordering.Less;
}

abbrev pub decreases-loop-low : goal.decreases-loop-low
decreases-loop-low l = l.high - l.low

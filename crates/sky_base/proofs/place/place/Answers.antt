use Rattle.std.proofs.Common.{◌≡◌, ◌<◌, ◌+◌, ◌-◌, ◌/◌, length, nat_cmp, arith}
use Rattle.std.specs.Cmp.Lexicographic.{slice_cmp}
use Rattle.std.specs.declared.cmp.Ordering.{Ordering}
use Rattle.sky_base.proofs.Keys.{item_is, passed_below, passed_equal}
use Rattle.sky_base.proofs.place.place.Goals as goal

pub returns-in-Equal : goal.returns-in-Equal
returns-in-Equal c =
    let ps = c.args.items.now in
    let m = c.loop-low.low + (c.loop-low.high - c.loop-low.low) / 2 in
    let within : m < length ps = omega arith in
    let compared : slice_cmp nat_cmp c.args.key.now c.index-items-middle.result.key ≡ Ordering.Equal = cc in
    let here = item_is ps m c.index-items-middle.result c.args.key.now Ordering.Equal within c.index-items-middle.is compared in
    (within, passed_equal ps m c.args.key.now c.requires within here, here)

pub loop-low-preserved : goal.loop-low-preserved
loop-low-preserved c =
    let ps = c.args.items.now in
    let m = c.loop-low.low + (c.loop-low.high - c.loop-low.low) / 2 in
    let within : m < length ps = omega arith in
    let compared : slice_cmp nat_cmp c.args.key.now c.index-items-middle.result.key ≡ Ordering.Greater = cc in
    let here = item_is ps m c.index-items-middle.result c.args.key.now Ordering.Greater within c.index-items-middle.is compared in
    record {
      order = omega arith;
      within = c.loop-low.invariant.within;
      passed = passed_below ps m c.args.key.now c.requires within here;
      above = c.loop-low.invariant.above;
    }

-- The key is above those before `low`, and below those from `high` on.
use Rattle.std.proofs.Common.{◌<◌, ◌+◌, ◌-◌, ◌/◌, ℕ, List, length, sym, ap, arith}
use Rattle.std.specs.Ordering.{is_eq}
use Rattle.std.specs.declared.cmp.Ordering.{Ordering}
use Rattle.sky_base.specs.View.{view}
use Rattle.sky_base.proofs.Exact.{exact_text}
use Rattle.ciel_memo_key.specs.Keys.{key_of}
use Rattle.ciel_memo_key.specs.Sorted.{at}
use Rattle.ciel_memo_key.proofs.Searching.{goes_down, goes_up, met, none_left}
use Rattle.ciel_memo_key.proofs.search.place_of.Goals as goal

pub returns-in-Equal : goal.returns-in-Equal
returns-in-Equal c =
    let q : List ℕ = key_of c.args.executor.now (view c.args.args.now) c.args.inputs.now c.args.outputs in
    let l = c.loop-low in
    let m : ℕ = l.low + (l.high - l.low) / 2 in
    let small : m < length c.args.keys.now = omega (arith, l.invariant.within, c.loop-low-test.true) in
    let e = met c.args.keys.now q m c.index-keys-middle.result c.as_slice.result.now Ordering.Equal c.compare_key.result small
    c.index-keys-middle.is c.as_slice.ensures.bytes c.compare_key.ensures c.in-Equal.is in
    record { place = (small, sym (exact_text q (at c.args.keys.now m) (ap is_eq e))) }

pub loop-low-preserved-in-Less : goal.loop-low-preserved-in-Less
loop-low-preserved-in-Less c =
    let q : List ℕ = key_of c.args.executor.now (view c.args.args.now) c.args.inputs.now c.args.outputs in
    let l = c.loop-low in
    let m : ℕ = l.low + (l.high - l.low) / 2 in
    let small : m < length c.args.keys.now = omega (arith, l.invariant.within, c.loop-low-test.true) in
    let e = met c.args.keys.now q m c.index-keys-middle.result c.as_slice.result.now Ordering.Less c.compare_key.result small
    c.index-keys-middle.is c.as_slice.ensures.bytes c.compare_key.ensures c.in-Less.is in
    goes_down c.args.keys.now q l.low l.high m c.requires.rises l.invariant (omega arith) (omega (arith, c.loop-low-test.true)) e

pub loop-low-preserved : goal.loop-low-preserved
loop-low-preserved c =
    let q : List ℕ = key_of c.args.executor.now (view c.args.args.now) c.args.inputs.now c.args.outputs in
    let l = c.loop-low in
    let m : ℕ = l.low + (l.high - l.low) / 2 in
    let small : m < length c.args.keys.now = omega (arith, l.invariant.within, c.loop-low-test.true) in
    let e = met c.args.keys.now q m c.index-keys-middle.result c.as_slice.result.now Ordering.Greater c.compare_key.result small
    c.index-keys-middle.is c.as_slice.ensures.bytes c.compare_key.ensures c.in-Greater.is in
    goes_up c.args.keys.now q l.low l.high m c.requires.rises l.invariant (omega arith) (omega (arith, c.loop-low-test.true)) e

pub returns : goal.returns
returns c =
    let q : List ℕ = key_of c.args.executor.now (view c.args.args.now) c.args.inputs.now c.args.outputs in
    record { place = none_left c.args.keys.now q c.loop-low.low c.loop-low.high c.loop-low.invariant (omega (arith, c.loop-low-test.false)) }

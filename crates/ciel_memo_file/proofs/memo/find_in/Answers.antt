-- The entry at the place of the key has the key, or none has.
use Rattle.std.proofs.Common.{◌<◌, Some, length, map, sym, ◌∙◌, ap, arith}
use Rattle.sky_base.specs.View.{view}
use Rattle.ciel_memo_file.specs.Entries.{Entry, entry_view}
use Rattle.ciel_memo_file.specs.File.{key_bytes}
use Rattle.ciel_memo_file.specs.Ordered.{place_at}
use Rattle.ciel_memo_file.proofs.Finding.{entry_read, found, has, length_views, none_found, not_found}
use Rattle.ciel_memo_file.proofs.memo.find_in.Goals as goal

pub returns-in_default : goal.returns-in_default
returns-in_default c =
    none_found c.args.executor.now (view c.args.args.now) c.args.inputs.now c.args.outputs (map entry_view c.args.entries.now) c.args.keys.now
    c.args.order.now c.requires c.in_default.ensures.place

pub has_key-requires : goal.has_key-requires
has_key-requires c =
    let es = map entry_view c.args.entries.now in
    let f = c.in-Some.ensures.place in
    let l : c.in-Some.at < length c.args.keys.now = omega (arith, f.0) in
    let small : place_at c.args.order.now c.in-Some.at < length c.args.entries.now = omega (
      arith,
      c.requires.within c.in-Some.at l,
      length_views c.args.entries.now,
    ) in
    let here = entry_read c.args.entries.now (place_at c.args.order.now c.in-Some.at) c.index-entries-place.result small c.index-entries-place.is in
    ap key_bytes (sym here) ∙ sym (c.requires.here c.in-Some.at l) ∙ f.1

pub returns-then-has_key : goal.returns-then-has_key
returns-then-has_key c =
    let x = c.args.executor.now in
    let args = view c.args.args.now in
    let inputs = c.args.inputs.now in
    let n = c.args.outputs in
    let es = map entry_view c.args.entries.now in
    let order = c.args.order.now in
    let f = c.in-Some.ensures.place in
    let l : c.in-Some.at < length c.args.keys.now = omega (arith, f.0) in
    let small : place_at order c.in-Some.at < length c.args.entries.now = omega (
      arith,
      c.requires.within c.in-Some.at l,
      length_views c.args.entries.now,
    ) in
    let here = entry_read c.args.entries.now (place_at order c.in-Some.at) c.index-entries-place.result small c.index-entries-place.is in
    found x args inputs n es c.args.keys.now order c.requires c.in-Some.at l f.1
    (ap (λ (e : Entry). has x args inputs n e) here ∙ (sym c.has_key.ensures ∙ c.if-has_key.true))
    ∙ ap (λ (e : Entry). Some e.made) here

pub returns : goal.returns
returns c =
    let x = c.args.executor.now in
    let args = view c.args.args.now in
    let inputs = c.args.inputs.now in
    let n = c.args.outputs in
    let es = map entry_view c.args.entries.now in
    let order = c.args.order.now in
    let f = c.in-Some.ensures.place in
    let l : c.in-Some.at < length c.args.keys.now = omega (arith, f.0) in
    let small : place_at order c.in-Some.at < length c.args.entries.now = omega (
      arith,
      c.requires.within c.in-Some.at l,
      length_views c.args.entries.now,
    ) in
    let here = entry_read c.args.entries.now (place_at order c.in-Some.at) c.index-entries-place.result small c.index-entries-place.is in
    not_found x args inputs n es c.args.keys.now order c.requires c.in-Some.at l f.1
    (ap (λ (e : Entry). has x args inputs n e) here ∙ (sym c.has_key.ensures ∙ c.if-has_key.false))

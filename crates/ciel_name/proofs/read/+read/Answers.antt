-- What was read, and what can't be read, at each end of the reading functions.
use Rattle.std.proofs.Common.{◌≡◌, ◌<◌, ◌+◌, ◌-◌, true, false, ap, sym, ◌∙◌, subst, arith, ltb-true}
use Rattle.sky_base.specs.Val.{add_val, size, sizes, pair_sizes, most_size}
use Rattle.sky_base.specs.Op.{put}
use Rattle.sky_base.specs.View.{view}
use Rattle.ciel_name.specs.Bodies.{ItemsRead, PairsRead, is_above}
use Rattle.ciel_name.proofs.DecodeSteps.{refuses_more, none_deep, none_small, none_large, none_empty, none_is, read_is, anonymous_none}
use Rattle.ciel_name.proofs.Items.{items_more, items_none, sizes-add, pairs_more, pairs_text, pairs_low, pairs_none, pair_sizes-put}
use Rattle.ciel_name.proofs.read.+read.Goals as goal

pub read_value-returns-then-left-eq0-clause-refused : goal.read_value-returns-then-left-eq0-clause-refused
read_value-returns-then-left-eq0-clause-refused t c = none_deep c.args.left c.args.room c.args.reader.now c.if-left-eq0.true

pub read_value-returns-in_default-clause-refused : goal.read_value-returns-in_default-clause-refused
read_value-returns-in_default-clause-refused t c = none_empty c.args.left c.args.room c.args.reader.now c.in_default.ensures

pub read_items-returns-in-Err-clause-refused : goal.read_items-returns-in-Err-clause-refused
read_items-returns-in-Err-clause-refused t c =
    let l = c.loop-item in
    refuses_more c.in-Err.refusal (items_none l._item c.args.count c.args.left c.args.room l.spare c.args.reader.now l.values l.reader
    l.invariant.0 l.invariant.1 (omega arith)) c.in-Err.ensures.refused

pub read_items-loop-item-preserved : goal.read_items-loop-item-preserved
read_items-loop-item-preserved t c =
    let l = c.loop-item in
    let v = view c.in-Ok.value in
    let pushed : c.push.new.self ≡ add_val l.values v = c.in_ok-push.ensures.ok in
    let sum : l.spare - c.size-spare.result + sizes (add_val l.values v) ≡ c.args.room =
    omega (arith, sizes-add l.values v, l.invariant.1, c.size-spare.ensures, c.in-Ok.ensures.fits) in
    subst (λ vs. ItemsRead (l._item + 1) c.args.left c.args.reader.now vs c.read_value.new.reader
    × (l.spare - c.size-spare.result + sizes vs ≡ c.args.room)) (sym pushed)
    (items_more l._item c.args.left c.args.reader.now l.values l.reader v c.read_value.new.reader l.invariant.0 c.in-Ok.ensures.value, sum)

pub read_pairs-returns-in-Err-clause-refused : goal.read_pairs-returns-in-Err-clause-refused
read_pairs-returns-in-Err-clause-refused t c =
    let l = c.loop-pair in
    refuses_more c.in-Err.refusal (pairs_text l._pair c.args.count c.args.left c.args.room l.spare c.args.reader.now l.pairs l.reader
    l.invariant.0 l.invariant.1 (omega arith)) c.in-Err.ensures.refused

pub read_pairs-returns-then-not-is_above-clause-refused : goal.read_pairs-returns-then-not-is_above-clause-refused
read_pairs-returns-then-not-is_above-clause-refused t c =
    let l = c.loop-pair in
    let low : is_above c.in-Ok.key l.pairs ≡ false = ap (is_above c.in-Ok.key) (sym c.as_slice.ensures.pairs) ∙ sym c.is_above.ensures.above
    ∙ c.if-not-is_above.true in
    pairs_low l._pair c.args.count c.args.left c.args.room c.args.reader.now l.pairs l.reader c.in-Ok.key c.read_text_within.new.reader
    l.invariant.0 (omega arith) c.in-Ok.ensures.text low

pub read_pairs-returns-in-Err-read_value-clause-refused : goal.read_pairs-returns-in-Err-read_value-clause-refused
read_pairs-returns-in-Err-read_value-clause-refused t c =
    let l = c.loop-pair in
    refuses_more c.in-Err-read_value.refusal (pairs_none l._pair c.args.count c.args.left c.args.room (l.spare - c.len.result) c.args.reader.now
    l.pairs l.reader c.in-Ok.key c.read_text_within.new.reader l.invariant.0
    (omega (arith, l.invariant.1, c.len.ensures, c.in-Ok.ensures.fits)) (omega arith) c.in-Ok.ensures.text) c.in-Err-read_value.ensures.refused

pub read_pairs-loop-pair-preserved : goal.read_pairs-loop-pair-preserved
read_pairs-loop-pair-preserved t c =
    let l = c.loop-pair in
    let v = view c.in-Ok-read_value.value in
    let high : is_above c.in-Ok.key l.pairs ≡ true = ap (is_above c.in-Ok.key) (sym c.as_slice.ensures.pairs) ∙ sym c.is_above.ensures.above
    ∙ c.if-not-is_above.false in
    let stored : c.insert.new.self ≡ put c.in-Ok.key v l.pairs = c.in_ok-insert.ensures.ok in
    let sum : l.spare - c.len.result - c.size-spare.result + pair_sizes (put c.in-Ok.key v l.pairs) ≡ c.args.room =
    omega (
      arith,
      pair_sizes-put c.in-Ok.key v l.pairs l.invariant.0.1.1.0 high,
      l.invariant.1,
      c.len.ensures,
      c.in-Ok.ensures.fits,
      c.size-spare.ensures,
      c.in-Ok-read_value.ensures.fits,
    ) in
    subst (λ ps. PairsRead (l._pair + 1) c.args.left c.args.reader.now ps c.read_value.new.reader
    × (l.spare - c.len.result - c.size-spare.result + pair_sizes ps ≡ c.args.room)) (sym stored) (
      pairs_more l._pair c.args.left c.args.reader.now l.pairs l.reader c.in-Ok.key c.read_text_within.new.reader v c.read_value.new.reader
          l.invariant.0 c.in-Ok.ensures.text high c.in-Ok-read_value.ensures.value,
      sum,
    )

pub read_anonymous-returns-in-Err-read_pairs-clause-refused :
    goal.read_anonymous-returns-in-Err-read_pairs-clause-refused
read_anonymous-returns-in-Err-read_pairs-clause-refused t c =
    refuses_more c.in-Err-read_pairs.refusal (anonymous_none c.args.left (c.args.left - 1) c.args.room (c.args.room - 1 - c.len.result)
    c.in-Some.count c.args.reader.now c.in-Ok.name c.read_text_within.new.reader c.number.new.self c.in-Ok.ensures.text c.in-Some.ensures
    (omega arith) (omega arith) (omega (arith, c.len.ensures, c.in-Ok.ensures.fits))) c.in-Err-read_pairs.ensures.refused

pub read_value-returns-then-room-eq0-clause-refused : goal.read_value-returns-then-room-eq0-clause-refused
read_value-returns-then-room-eq0-clause-refused t c = none_small c.args.left c.args.room c.args.reader.now c.if-room-eq0.true

pub read_value-returns-in-Err-clause-refused : goal.read_value-returns-in-Err-clause-refused
read_value-returns-in-Err-clause-refused t c =
    refuses_more c.in-Err.refusal
    (none_is c.in-Some.kind c.args.left c.args.room c.args.reader.now c.byte.new.self c.in-Some.ensures) c.in-Err.ensures.refused

pub read_value-returns-then-is_too_large-clause-refused : goal.read_value-returns-then-is_too_large-clause-refused
read_value-returns-then-is_too_large-clause-refused t c =
    let v = view c.in-Ok.value in
    let large : most_size < size v = ltb-true most_size (size v) (sym c.is_too_large.ensures ∙ c.if-is_too_large.true) in
    none_large c.args.left c.args.room c.args.reader.now v c.read_body.new.reader
    (read_is c.in-Some.kind c.args.left c.args.reader.now c.byte.new.self v c.read_body.new.reader c.in-Some.ensures c.in-Ok.ensures.value)
    (omega (arith, large, c.requires.within))

pub read_value-returns-then-size-room-clause-refused : goal.read_value-returns-then-size-room-clause-refused
read_value-returns-then-size-room-clause-refused t c =
    let v = view c.in-Ok.value in
    none_large c.args.left c.args.room c.args.reader.now v c.read_body.new.reader
    (read_is c.in-Some.kind c.args.left c.args.reader.now c.byte.new.self v c.read_body.new.reader c.in-Some.ensures c.in-Ok.ensures.value)
    (omega (arith, c.size.ensures, c.if-size-room.true))

-- Piece by piece; where nothing more is kept, what is left changes nothing.
use Rattle.std.proofs.Common.{arith, subst}
use Rattle.ciel_look_words.specs.Kept.{Puts}
use Rattle.ciel_look_words.proofs.ManyWords.{pairs_end, pairs_full, pairs_next, values_end, values_full, values_next}
use Rattle.ciel_look_words.proofs.value.+put.Goals as goal

pub put_values-loop-value-preserved : goal.put_values-loop-value-preserved
put_values-loop-value-preserved t c =
    let l = c.loop-value in
    values_next c.args.out.now c.as_slice-value-items.result.now l.value-index l.first c.value-item.result l.out _ _ (omega arith) c.value-item.is l.invariant
    c.in_ok-put_between.ensures c.in_ok-put_value.ensures

pub put_values-returns-then-is_full : goal.put_values-returns-then-is_full
put_values-returns-then-is_full t c =
    let l = c.loop-value in
    values_full c.args.out.now c.as_slice-value-items.result.now c.args.values.now l.value-index l.first l.out c.as_slice-value-items.ensures l.invariant
    (c.is_full.ensures.full c.if-is_full.true)

pub put_values-returns : goal.put_values-returns
put_values-returns t c =
    let l = c.loop-value in
    values_end c.args.out.now c.as_slice-value-items.result.now c.args.values.now l.value-index l.first l.out c.as_slice-value-items.ensures l.invariant (omega arith)

pub put_pairs-loop-pair-preserved : goal.put_pairs-loop-pair-preserved
put_pairs-loop-pair-preserved t c =
    let l = c.loop-pair in
    pairs_next c.args.out.now c.as_slice-pair-items.result.now l.pair-index l.first c.pair-item.result l.out _ _ _ _ (omega arith) c.pair-item.is l.invariant
    c.in_ok-put_between.ensures (subst (λ k. Puts c.put_between.new.out k c.put.new.out) c.as_str.ensures.value c.in_ok-put.ensures)
    c.in_ok-put-2.ensures c.in_ok-put_value.ensures

pub put_pairs-returns-then-is_full : goal.put_pairs-returns-then-is_full
put_pairs-returns-then-is_full t c =
    let l = c.loop-pair in
    pairs_full c.args.out.now c.as_slice-pair-items.result.now c.args.pairs.now l.pair-index l.first l.out c.as_slice-pair-items.ensures.pairs l.invariant
    (c.is_full.ensures.full c.if-is_full.true)

pub put_pairs-returns : goal.put_pairs-returns
put_pairs-returns t c =
    let l = c.loop-pair in
    pairs_end c.args.out.now c.as_slice-pair-items.result.now c.args.pairs.now l.pair-index l.first l.out c.as_slice-pair-items.ensures.pairs l.invariant (omega arith)

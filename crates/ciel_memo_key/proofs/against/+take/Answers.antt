use Rattle.std.proofs.Common.{◌++◌, refl, arith, sym, ◌∙◌, ap, append_assoc}
use Rattle.sky_base.specs.Name.{bytes, bytes_of_text, pairs_bytes, vals_bytes}
use Rattle.sky_base.specs.Val.{count, pair_count}
use Rattle.sky_base.specs.View.{pairs_of, vals_of, view}
use Rattle.sky_base.specs.declared.value.Pair.{Pair}
use Rattle.sky_base.specs.declared.value.Value.{Value}
use Rattle.ciel_memo_key.specs.Against.{taken}
use Rattle.ciel_memo_key.proofs.Taking.{counted, goes_on, goes_to_end, taken_joined}
use Rattle.ciel_memo_key.proofs.against.+take.Goals as goal

pub take_values-loop-value-preserved : goal.take_values-loop-value-preserved
take_values-loop-value-preserved t c =
    let xs = c.as_slice-value-items.result.now in
    goes_on (λ (v : Value). bytes (view v)) (λ vs. vals_bytes (vals_of vs)) (λ v vs. refl) c.count.new.self c.loop-value.against
    c.take_value.new.against xs
    c.loop-value.value-index c.value-item.result (vals_bytes (vals_of xs)) (omega (arith, c.loop-value-test.true)) c.value-item.is
    c.loop-value.invariant c.take_value.ensures

pub take_pairs-loop-pair-preserved : goal.take_pairs-loop-pair-preserved
take_pairs-loop-pair-preserved t c =
    let xs = c.as_slice-pair-items.result.now in
    let p = c.pair-item.result in
    goes_on (λ (p : Pair). bytes_of_text p.key ++ bytes (view p.value)) (λ ps. pairs_bytes (pairs_of ps))
    (λ p ps. sym (append_assoc (bytes_of_text p.key) (bytes (view p.value)) (pairs_bytes (pairs_of ps))))
    c.count.new.self c.loop-pair.against c.take_value.new.against xs
    c.loop-pair.pair-index p (pairs_bytes (pairs_of xs)) (omega (arith, c.loop-pair-test.true)) c.pair-item.is
    c.loop-pair.invariant
    (c.take_value.ensures ∙ (ap (λ s. taken s (bytes (view p.value))) c.text.ensures ∙ taken_joined c.loop-pair.against (bytes_of_text
    p.key) (bytes (view p.value))))

pub take_values-returns : goal.take_values-returns
take_values-returns t c =
    let xs = c.as_slice-value-items.result.now in
    counted c.args.against.now c.count.new.self c.loop-value.against c.len.result (count c.args.values.now) (vals_bytes (vals_of xs))
    (vals_bytes c.args.values.now)
    (goes_to_end (λ vs. vals_bytes (vals_of vs)) refl c.count.new.self c.loop-value.against xs c.loop-value.value-index (vals_bytes (vals_of xs))
    (omega (arith, c.loop-value-test.false)) c.loop-value.invariant) c.count.ensures c.len.ensures (ap vals_bytes c.as_slice-value-items.ensures)

pub take_pairs-returns : goal.take_pairs-returns
take_pairs-returns t c =
    let xs = c.as_slice-pair-items.result.now in
    counted c.args.against.now c.count.new.self c.loop-pair.against c.len.result (pair_count c.args.pairs.now) (pairs_bytes (pairs_of xs))
    (pairs_bytes c.args.pairs.now)
    (goes_to_end (λ ps. pairs_bytes (pairs_of ps)) refl c.count.new.self c.loop-pair.against xs c.loop-pair.pair-index (pairs_bytes (pairs_of xs))
    (omega (arith, c.loop-pair-test.false)) c.loop-pair.invariant) c.count.ensures c.len.ensures (ap pairs_bytes c.as_slice-pair-items.ensures.pairs)

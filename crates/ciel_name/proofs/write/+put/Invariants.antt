-- A value holds more lists and pairs than what is in it; what is left to write stands behind what was written.
use Rattle.std.proofs.Common.{◌≡◌, ◌++◌, drop}
use Rattle.sky_base.specs.Val.{val_nodes, vals_nodes, pairs_nodes}
use Rattle.sky_base.specs.Name.{vals_bytes, pairs_bytes}
use Rattle.sky_base.specs.View.{view, vals_of, pairs_of}
use Rattle.ciel_name.proofs.write.+put.Given as goal

abbrev pub decreases-put_value : goal.decreases-put_value
decreases-put_value l = val_nodes (view l.value.now)

abbrev pub decreases-put_values : goal.decreases-put_values
decreases-put_values l = vals_nodes l.values.now

abbrev pub decreases-put_pairs : goal.decreases-put_pairs
decreases-put_pairs l = pairs_nodes l.pairs.now

abbrev pub invariant-put_values-loop-value : goal.invariant-put_values-loop-value
invariant-put_values-loop-value l =
    l.initial.out ++ vals_bytes (vals_of l.value-items) ≡ l.out ++ vals_bytes (vals_of (drop l.value-index l.value-items))

abbrev pub invariant-put_pairs-loop-pair : goal.invariant-put_pairs-loop-pair
invariant-put_pairs-loop-pair l =
    l.initial.out ++ pairs_bytes (pairs_of l.pair-items) ≡ l.out ++ pairs_bytes (pairs_of (drop l.pair-index l.pair-items))

use Rattle.std.proofs.Common.{◌≡◌, drop}
use Rattle.sky_base.specs.Val.{val_nodes, vals_nodes, pairs_nodes}
use Rattle.sky_base.specs.View.{view, vals_of, pairs_of}
use Rattle.sky_base_known.specs.Sums.{vals_sum, pairs_sum}
use Rattle.sky_base_known.proofs.sum.+sum.Given as goal

abbrev pub invariant-with_values-loop-value : goal.invariant-with_values-loop-value
invariant-with_values-loop-value l =
    vals_sum l.fn.sum (vals_of l.values) ≡ vals_sum l.sum (vals_of (drop l.value-index l.values))

abbrev pub invariant-with_pairs-loop-pair : goal.invariant-with_pairs-loop-pair
invariant-with_pairs-loop-pair l =
    pairs_sum l.fn.sum (pairs_of l.pairs) ≡ pairs_sum l.sum (pairs_of (drop l.pair-index l.pairs))

abbrev pub decreases-with_value : goal.decreases-with_value
decreases-with_value l = val_nodes (view l.value.now)

abbrev pub decreases-with_values : goal.decreases-with_values
decreases-with_values l = vals_nodes (vals_of l.values.now)

abbrev pub decreases-with_pairs : goal.decreases-with_pairs
decreases-with_pairs l = pairs_nodes (pairs_of l.pairs.now)

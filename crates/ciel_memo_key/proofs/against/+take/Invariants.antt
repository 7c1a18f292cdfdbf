use Rattle.std.proofs.Common.{◌≡◌, drop}
use Rattle.sky_base.specs.Val.{val_nodes, vals_nodes, pairs_nodes}
use Rattle.sky_base.specs.Name.{vals_bytes, pairs_bytes}
use Rattle.sky_base.specs.View.{view, vals_of, pairs_of}
use Rattle.ciel_memo_key.specs.Against.{taken}
use Rattle.ciel_memo_key.proofs.against.+take.Given as goal

abbrev pub decreases-take_value : goal.decreases-take_value
decreases-take_value l = val_nodes (view l.value.now)

abbrev pub decreases-take_values : goal.decreases-take_values
decreases-take_values l = vals_nodes l.values.now

abbrev pub decreases-take_pairs : goal.decreases-take_pairs
decreases-take_pairs l = pairs_nodes l.pairs.now

abbrev pub invariant-take_values-loop-value : goal.invariant-take_values-loop-value
invariant-take_values-loop-value l =
    taken l.initial.against (vals_bytes (vals_of l.value-items)) ≡ taken l.against (vals_bytes (vals_of (drop l.value-index l.value-items)))

abbrev pub invariant-take_pairs-loop-pair : goal.invariant-take_pairs-loop-pair
invariant-take_pairs-loop-pair l =
    taken l.initial.against (pairs_bytes (pairs_of l.pair-items)) ≡ taken l.against (pairs_bytes (pairs_of (drop l.pair-index l.pair-items)))

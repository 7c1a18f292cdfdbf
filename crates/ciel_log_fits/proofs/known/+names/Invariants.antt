-- All names are known exactly where those that are left are; a value inside is smaller.
use Rattle.std.proofs.Common.{drop}
use Rattle.sky_base.specs.Val.{pairs_nodes, val_nodes, vals_nodes}
use Rattle.sky_base.specs.View.{pairs_of, vals_of, view}
use Rattle.ciel_log_fits.specs.Known.{NamesInPairs, NamesInVals, knows}
use Rattle.ciel_log_fits.proofs.known.+names.Given as goal

abbrev pub invariant-in_values-loop-value : goal.invariant-in_values-loop-value
invariant-in_values-loop-value g l =
    (NamesInVals (knows l.after) (vals_of (drop l.value-index l.values)) → NamesInVals (knows l.after) (vals_of l.values))
    × (NamesInVals (knows l.after) (vals_of l.values) → NamesInVals (knows l.after) (vals_of (drop l.value-index l.values)))

abbrev pub invariant-in_pairs-loop-pair : goal.invariant-in_pairs-loop-pair
invariant-in_pairs-loop-pair g l =
    (NamesInPairs (knows l.after) (pairs_of (drop l.pair-index l.pairs)) → NamesInPairs (knows l.after) (pairs_of l.pairs))
    × (NamesInPairs (knows l.after) (pairs_of l.pairs) → NamesInPairs (knows l.after) (pairs_of (drop l.pair-index l.pairs)))

abbrev pub decreases-in_value : goal.decreases-in_value
decreases-in_value g l = val_nodes (view l.value.now)

abbrev pub decreases-in_values : goal.decreases-in_values
decreases-in_values g l = vals_nodes (vals_of l.values.now)

abbrev pub decreases-in_pairs : goal.decreases-in_pairs
decreases-in_pairs g l = pairs_nodes (pairs_of l.pairs.now)

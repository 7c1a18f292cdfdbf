-- All functions fit exactly where those that are left do; a value inside is smaller.
use Rattle.std.proofs.Common.{drop}
use Rattle.sky_base.specs.Val.{val_nodes, vals_nodes, pairs_nodes}
use Rattle.sky_base.specs.View.{view, vals_of, pairs_of}
use Rattle.sky_base_law.specs.Sound.{ValsSound, PairsSound}
use Rattle.sky_frozen.proofs.values.+functions.Given as goal

abbrev pub invariant-all_functions_fit-loop-value : goal.invariant-all_functions_fit-loop-value
invariant-all_functions_fit-loop-value l =
    (ValsSound l.captures (vals_of (drop l.value-index l.values)) → ValsSound l.captures (vals_of l.values))
    × (ValsSound l.captures (vals_of l.values) → ValsSound l.captures (vals_of (drop l.value-index l.values)))

abbrev pub invariant-functions_in_fit-loop-pair : goal.invariant-functions_in_fit-loop-pair
invariant-functions_in_fit-loop-pair l =
    (PairsSound l.captures (pairs_of (drop l.pair-index l.pairs)) → PairsSound l.captures (pairs_of l.pairs))
    × (PairsSound l.captures (pairs_of l.pairs) → PairsSound l.captures (pairs_of (drop l.pair-index l.pairs)))

abbrev pub decreases-functions_fit : goal.decreases-functions_fit
decreases-functions_fit l = val_nodes (view l.value.now)

abbrev pub decreases-all_functions_fit : goal.decreases-all_functions_fit
decreases-all_functions_fit l = vals_nodes (vals_of l.values.now)

abbrev pub decreases-functions_in_fit : goal.decreases-functions_in_fit
decreases-functions_in_fit l = pairs_nodes (pairs_of l.pairs.now)

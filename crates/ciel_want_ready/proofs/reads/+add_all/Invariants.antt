use Rattle.std.proofs.Common.{◌≡◌, drop}
use Rattle.sky_base.specs.Val.{pairs_nodes, pairs_refs, val_nodes, vals_nodes, vals_refs}
use Rattle.sky_base.specs.View.{pairs_of, vals_of, view}
use Rattle.ciel_want_ready.specs.Reading.{and_all}
use Rattle.ciel_want_ready.proofs.reads.+add_all.Given as goal

abbrev pub invariant-add_values-loop-value : goal.invariant-add_values-loop-value
invariant-add_values-loop-value l =
    and_all l.initial.found (vals_refs (vals_of l.values)) ≡ and_all l.found (vals_refs (vals_of (drop l.value-index l.values)))

abbrev pub invariant-add_pairs-loop-pair : goal.invariant-add_pairs-loop-pair
invariant-add_pairs-loop-pair l =
    and_all l.initial.found (pairs_refs (pairs_of l.pairs)) ≡ and_all l.found (pairs_refs (pairs_of (drop l.pair-index l.pairs)))

abbrev pub decreases-add_all : goal.decreases-add_all
decreases-add_all l = val_nodes (view l.value.now)

abbrev pub decreases-add_values : goal.decreases-add_values
decreases-add_values l = vals_nodes (vals_of l.values.now)

abbrev pub decreases-add_pairs : goal.decreases-add_pairs
decreases-add_pairs l = pairs_nodes (pairs_of l.pairs.now)

use Rattle.std.proofs.Common.{◌≡◌, drop}
use Rattle.sky_base.specs.Val.{val_nodes, vals_nodes, pairs_nodes, vals_refs, pairs_refs}
use Rattle.sky_base.specs.Names.{known_of, gathered}
use Rattle.sky_base.specs.View.{view, vals_of, pairs_of}
use Rattle.sky_base.proofs.refs.+gather.Given as goal

abbrev pub invariant-gather_all-loop-v : goal.invariant-gather_all-loop-v
invariant-gather_all-loop-v l =
    gathered (known_of l.initial.found) (vals_refs (vals_of l.vs)) ≡ gathered (known_of l.found) (vals_refs (vals_of (drop l.v-index l.vs)))

abbrev pub invariant-gather_pairs-loop-p : goal.invariant-gather_pairs-loop-p
invariant-gather_pairs-loop-p l =
    gathered (known_of l.initial.found) (pairs_refs (pairs_of l.ps)) ≡ gathered (known_of l.found) (pairs_refs (pairs_of (drop l.p-index l.ps)))

abbrev pub decreases-gather : goal.decreases-gather
decreases-gather l = val_nodes (view l.v.now)

abbrev pub decreases-gather_all : goal.decreases-gather_all
decreases-gather_all l = vals_nodes (vals_of l.vs.now)

abbrev pub decreases-gather_pairs : goal.decreases-gather_pairs
decreases-gather_pairs l = pairs_nodes (pairs_of l.ps.now)

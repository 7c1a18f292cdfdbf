use Rattle.std.proofs.Common.{◌≡◌, drop}
use Rattle.sky_base.specs.Val.{val_nodes, vals_nodes, pairs_nodes, vals_plain, pairs_plain}
use Rattle.sky_base.specs.View.{view, vals_of, pairs_of}
use Rattle.sky_base.proofs.compare.+plain.Given as goal

abbrev pub invariant-are_plain-loop-v : goal.invariant-are_plain-loop-v
invariant-are_plain-loop-v l = vals_plain (vals_of l.vs) ≡ vals_plain (vals_of (drop l.v-index l.vs))

abbrev pub invariant-are_pairs_plain-loop-p : goal.invariant-are_pairs_plain-loop-p
invariant-are_pairs_plain-loop-p l = pairs_plain (pairs_of l.ps) ≡ pairs_plain (pairs_of (drop l.p-index l.ps))

abbrev pub decreases-is_plain : goal.decreases-is_plain
decreases-is_plain l = val_nodes (view l.v.now)

abbrev pub decreases-are_plain : goal.decreases-are_plain
decreases-are_plain l = vals_nodes (vals_of l.vs.now)

abbrev pub decreases-are_pairs_plain : goal.decreases-are_pairs_plain
decreases-are_pairs_plain l = pairs_nodes (pairs_of l.ps.now)

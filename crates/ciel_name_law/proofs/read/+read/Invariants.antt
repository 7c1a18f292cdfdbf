-- All is told where what is left is; a value inside is smaller.
use Rattle.std.proofs.Common.{drop}
use Rattle.sky_base.specs.Val.{val_nodes, vals_nodes, pairs_nodes}
use Rattle.sky_base.specs.View.{view, vals_of, pairs_of}
use Rattle.ciel_name_law.specs.Told.{PairsTold, ValsTold}
use Rattle.ciel_name_law.proofs.read.+read.Given as goal

abbrev pub invariant-read_values-loop-value : goal.invariant-read_values-loop-value
invariant-read_values-loop-value l = ValsTold (vals_of (drop l.value-index l.values)) → ValsTold (vals_of l.values)

abbrev pub invariant-read_pairs-loop-pair : goal.invariant-read_pairs-loop-pair
invariant-read_pairs-loop-pair l = PairsTold (pairs_of (drop l.pair-index l.pairs)) → PairsTold (pairs_of l.pairs)

abbrev pub decreases-read : goal.decreases-read
decreases-read l = val_nodes (view l.value.now)

abbrev pub decreases-read_values : goal.decreases-read_values
decreases-read_values l = vals_nodes (vals_of l.values.now)

abbrev pub decreases-read_pairs : goal.decreases-read_pairs
decreases-read_pairs l = pairs_nodes (pairs_of l.pairs.now)

-- A value holds more lists and pairs than what is in it; what is left to put stands behind what was put.
use Rattle.std.proofs.Common.{◌≡◌, ◌++◌, ℕ, List, drop, take, true}
use Rattle.sky_base.specs.Val.{val_nodes, vals_nodes, pairs_nodes}
use Rattle.sky_base.specs.View.{pairs_of, vals_of, view}
use Rattle.ciel_look_words.specs.Words.{pairs_words, vals_words}
use Rattle.ciel_look_words.proofs.value.+put.Given as goal

abbrev pub decreases-put_value : goal.decreases-put_value
decreases-put_value l = val_nodes (view l.value.now)

abbrev pub decreases-put_values : goal.decreases-put_values
decreases-put_values l = vals_nodes l.values.now

abbrev pub decreases-put_pairs : goal.decreases-put_pairs
decreases-put_pairs l = pairs_nodes l.pairs.now

abbrev pub invariant-put_values-loop-value : goal.invariant-put_values-loop-value
invariant-put_values-loop-value l =
    (more : List ℕ) → take 61 (l.out ++ (vals_words l.first (vals_of (drop l.value-index l.value-items)) ++ more))
    ≡ take 61 (l.initial.out ++ (vals_words true (vals_of l.value-items) ++ more))

abbrev pub invariant-put_pairs-loop-pair : goal.invariant-put_pairs-loop-pair
invariant-put_pairs-loop-pair l =
    (more : List ℕ) → take 61 (l.out ++ (pairs_words l.first (pairs_of (drop l.pair-index l.pair-items)) ++ more))
    ≡ take 61 (l.initial.out ++ (pairs_words true (pairs_of l.pair-items) ++ more))

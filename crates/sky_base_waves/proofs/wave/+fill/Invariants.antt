use Rattle.std.proofs.Common.{◌≡◌, drop}
use Rattle.sky_base.specs.Val.{val_nodes, vals_nodes, pairs_nodes}
use Rattle.sky_base.specs.View.{view, vals_of, pairs_of}
use Rattle.sky_base_known.specs.Data.{data_of}
use Rattle.sky_base_waves.specs.Wave.{value_seen, fill_vals, fill_pairs}
use Rattle.sky_base_waves.proofs.Fills.{behind, behind_pairs, Meets}
use Rattle.sky_base_waves.proofs.wave.+fill.Given as goal

abbrev pub invariant-fill_vals-loop-value : goal.invariant-fill_vals-loop-value
invariant-fill_vals-loop-value g l = record {
  rest : fill_vals (λ d. value_seen data_of (g.K.Known.knows l.objects d)) (vals_of l.values)
      ≡ behind l.filled (fill_vals (λ d. value_seen data_of (g.K.Known.knows l.objects d)) (vals_of (drop l.value-index l.values)));
}

abbrev pub invariant-fill_pairs-loop-pair : goal.invariant-fill_pairs-loop-pair
invariant-fill_pairs-loop-pair g l = record {
  meets : Meets l.filled (pairs_of (drop l.pair-index l.pairs));
  rest : fill_pairs (λ d. value_seen data_of (g.K.Known.knows l.objects d)) (pairs_of l.pairs)
      ≡ behind_pairs l.filled (fill_pairs (λ d. value_seen data_of (g.K.Known.knows l.objects d)) (pairs_of (drop l.pair-index l.pairs)));
}

abbrev pub decreases-fill : goal.decreases-fill
decreases-fill g l = val_nodes (view l.value.now)

abbrev pub decreases-fill_vals : goal.decreases-fill_vals
decreases-fill_vals g l = vals_nodes (vals_of l.values.now)

abbrev pub decreases-fill_pairs : goal.decreases-fill_pairs
decreases-fill_pairs g l = pairs_nodes (pairs_of l.pairs.now)

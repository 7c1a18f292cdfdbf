use Rattle.std.proofs.Common.{◌≡◌, drop}
use Rattle.sky_base.specs.Val.{vals_refs, pairs_refs, val_nodes, vals_nodes, pairs_nodes}
use Rattle.sky_base.specs.View.{view, vals_of, pairs_of}
use Rattle.ciel_json.specs.Text.{text_of as writes}
use Rattle.sky_base_exec.specs.Perform.{all_bytes}
use Rattle.sky_base_exec.specs.Puts.{behind}
use Rattle.sky_base_exec.proofs.inputs.+put_all.Given as goal

abbrev pub invariant-put_values-loop-value : goal.invariant-put_values-loop-value
invariant-put_values-loop-value g l = record {
  rest : behind l.fn.inputs.items (all_bytes writes (g.K.Known.knows l.objects) (vals_refs (vals_of l.values)))
      ≡ behind l.inputs.items (all_bytes writes (g.K.Known.knows l.objects) (vals_refs (vals_of (drop l.value-index l.values))));
}

abbrev pub invariant-put_pairs-loop-pair : goal.invariant-put_pairs-loop-pair
invariant-put_pairs-loop-pair g l = record {
  rest : behind l.fn.inputs.items (all_bytes writes (g.K.Known.knows l.objects) (pairs_refs (pairs_of l.pairs)))
      ≡ behind l.inputs.items (all_bytes writes (g.K.Known.knows l.objects) (pairs_refs (pairs_of (drop l.pair-index l.pairs))));
}

abbrev pub decreases-put_all : goal.decreases-put_all
decreases-put_all g l = val_nodes (view l.value.now)

abbrev pub decreases-put_values : goal.decreases-put_values
decreases-put_values g l = vals_nodes (vals_of l.values.now)

abbrev pub decreases-put_pairs : goal.decreases-put_pairs
decreases-put_pairs g l = pairs_nodes (pairs_of l.pairs.now)

use Rattle.std.proofs.Common.{◌≡◌, ◌+◌, length, drop}
use Rattle.sky_base.specs.Op.{join}
use Rattle.sky_base.specs.See.{vals_replaced, pairs_replaced}
use Rattle.sky_base.specs.Val.{vals_refs, pairs_refs, val_nodes, vals_nodes, pairs_nodes}
use Rattle.sky_base.specs.View.{view, vals_of, pairs_of}
use Rattle.sky_base_waves.proofs.Fills.{joined, Meets}
use Rattle.sky_base_exec.specs.Perform.{in_slot}
use Rattle.sky_base_exec.proofs.slots.+slotted.Given as goal

abbrev pub invariant-slotted_values-loop-value : goal.invariant-slotted_values-loop-value
invariant-slotted_values-loop-value l = record {
  left : l.next + length (vals_refs (vals_of (drop l.value-index l.values))) ≡ l.fn.next + length (vals_refs (vals_of l.values));
  rest : vals_replaced in_slot l.fn.next (vals_of l.values) ≡ join l.all (vals_replaced in_slot l.next (vals_of (drop l.value-index l.values)));
}

abbrev pub invariant-slotted_pairs-loop-pair : goal.invariant-slotted_pairs-loop-pair
invariant-slotted_pairs-loop-pair l = record {
  left : l.next + length (pairs_refs (pairs_of (drop l.pair-index l.pairs))) ≡ l.fn.next + length (pairs_refs (pairs_of l.pairs));
  meets : Meets l.all (pairs_of (drop l.pair-index l.pairs));
  rest : pairs_replaced in_slot l.fn.next (pairs_of l.pairs) ≡ joined l.all (pairs_replaced in_slot l.next (pairs_of (drop l.pair-index l.pairs)));
}

abbrev pub decreases-slotted : goal.decreases-slotted
decreases-slotted l = val_nodes (view l.value.now)

abbrev pub decreases-slotted_values : goal.decreases-slotted_values
decreases-slotted_values l = vals_nodes (vals_of l.values.now)

abbrev pub decreases-slotted_pairs : goal.decreases-slotted_pairs
decreases-slotted_pairs l = pairs_nodes (pairs_of l.pairs.now)

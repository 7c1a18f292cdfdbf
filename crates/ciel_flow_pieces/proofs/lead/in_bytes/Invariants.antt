use Rattle.std.proofs.Common.{◌≡◌, ◌++◌, length}
use Rattle.std.specs.Vec.Iter.{into_iter_items, into_iter_len}
use Rattle.ciel_flow_pieces.proofs.lead.in_bytes.Given as goal

abbrev pub invariant-loop-one : goal.invariant-loop-one
invariant-loop-one l = record {
  rest : l.all.items ++ into_iter_items l.one-iterator ≡ l.fn.kept.items;
  count : into_iter_len l.one-iterator ≡ length (into_iter_items l.one-iterator);
}

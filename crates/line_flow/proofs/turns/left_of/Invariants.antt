use Rattle.std.proofs.Common.{◌≡◌, ◌++◌, length, map}
use Rattle.std.specs.Vec.Iter.{into_iter_items, into_iter_len}
use Rattle.line_flow.proofs.turns.left_of.Given as goal

abbrev pub invariant-loop-out : goal.invariant-loop-out
invariant-loop-out l = record {
  rest : l.all.items ++ map (λ s. s.bytes.items) (into_iter_items l.out-iterator) ≡ map (λ s. s.bytes.items) l.fn.outs.items;
  count : into_iter_len l.out-iterator ≡ length (into_iter_items l.out-iterator);
}

use Rattle.std.proofs.Common.{◌≡◌, ◌+◌, ◌<◌, ◌≤◌, ◌-◌, ◌^◌, ℕ, [], length, min, slice_index_or}
use Rattle.line_flow.specs.declared.stream.Stream.{Stream}
use Rattle.line_flow.proofs.turns.drain_all.Given as goal

abbrev pub invariant-loop-i : goal.invariant-loop-i
invariant-loop-i l = record {
  count : length l.outs.items ≡ length l.fn.outs.items;
  emptied : (k : ℕ) (d : Stream) → k < l.i → (slice_index_or l.outs.items k d).bytes.items ≡ [];
  gone : (k : ℕ) (d : Stream) → k < l.i → k < length l.fn.outs.items
      → (slice_index_or l.outs.items k d).gone ≡ min
      ((slice_index_or l.fn.outs.items k d).gone + length (slice_index_or l.fn.outs.items k d).bytes.items) (2 ^ 64 - 1);
  later : (k : ℕ) (d : Stream) → l.i ≤ k → slice_index_or l.outs.items k d ≡ slice_index_or l.fn.outs.items k d;
}

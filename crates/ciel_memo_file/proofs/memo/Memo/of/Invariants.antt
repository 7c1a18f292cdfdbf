-- What was taken out of the map, and what is left in it, is all of it.
use Rattle.std.proofs.Common.{◌≡◌, ◌++◌}
use Rattle.std.specs.Map.{keys_of}
use Rattle.ciel_memo_file.proofs.Places.{orders}
use Rattle.ciel_memo_file.proofs.memo.Memo.of.Given as goal

abbrev pub invariant-loop-key : goal.invariant-loop-key
invariant-loop-key l = record {
  keys : l.keys.items ++ keys_of l.key-iterator ≡ keys_of l.fn.gathered.places.entries;
  order : l.order.items ++ orders l.key-iterator ≡ orders l.fn.gathered.places.entries;
}

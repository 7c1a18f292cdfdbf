-- The blocks so far stand behind what was held.
use Rattle.std.proofs.Common.{◌≡◌, ◌++◌, flat_map, take}
use Rattle.ciel_memo_key.specs.Keys.{block}
use Rattle.ciel_memo_key.proofs.write.put_blocks.Given as goal

abbrev pub invariant-loop-bytes : goal.invariant-loop-bytes
invariant-loop-bytes l = l.out ≡ l.fn.out ++ flat_map block (take l.bytes-index l.blocks)

-- The blocks so far have so many bytes.
use Rattle.std.proofs.Common.{◌≡◌, flat_map, length, take}
use Rattle.ciel_memo_key.specs.Keys.{block}
use Rattle.ciel_memo_file.proofs.next.blocks_length.Given as goal

abbrev pub invariant-loop-bytes : goal.invariant-loop-bytes
invariant-loop-bytes l = l.length ≡ length (flat_map block (take l.bytes-index l.blocks))

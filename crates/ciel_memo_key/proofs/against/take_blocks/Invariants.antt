-- What is left of the blocks is what is still to be taken.
use Rattle.std.proofs.Common.{◌≡◌, drop, flat_map}
use Rattle.ciel_memo_key.specs.Against.{taken}
use Rattle.ciel_memo_key.specs.Keys.{block}
use Rattle.ciel_memo_key.proofs.against.take_blocks.Given as goal

abbrev pub invariant-loop-bytes : goal.invariant-loop-bytes
invariant-loop-bytes l = taken l.initial.against (flat_map block l.all) ≡ taken l.against (flat_map block (drop l.bytes-index l.all))

use Rattle.std.proofs.Common.{◌≡◌, drop}
use Rattle.sky_base_known.specs.Sums.{text_sum}
use Rattle.sky_base_known.proofs.sum.with_bytes.Given as goal

abbrev pub invariant-loop-byte : goal.invariant-loop-byte
invariant-loop-byte l = text_sum l.fn.sum l.bytes ≡ text_sum l.sum (drop l.byte-index l.bytes)

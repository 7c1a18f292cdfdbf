use Rattle.std.proofs.Common.{◌≡◌, ◌+◌, ◌<◌, length}
use Rattle.sky_text.specs.Lexing.{and_then, text_from}
use Rattle.sky_text.proofs.Leaves.{with_front}
use Rattle.sky_text.proofs.scan.content.Given as goal

abbrev pub invariant-loop-b : goal.invariant-loop-b
invariant-loop-b l = record {
  left : and_then (text_from l.quote l.at l.rest) (with_front l.content.items) ≡ text_from l.quote (l.quote + 1) l.bytes;
  count : l.at + length l.rest ≡ l.quote + 1 + length l.bytes;
  past : l.quote < l.at;
}

abbrev pub decreases-loop-b : goal.decreases-loop-b
decreases-loop-b l = length l.rest

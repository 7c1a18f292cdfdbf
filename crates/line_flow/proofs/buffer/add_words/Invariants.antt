use Rattle.std.proofs.Common.{◌≡◌, ◌++◌, length, take}
use Rattle.line_kit.specs.Lines.{joined}
use Rattle.line_kit.specs.Words.{words}
use Rattle.line_flow.proofs.buffer.add_words.Given as goal

abbrev pub invariant-loop-word : goal.invariant-loop-word
invariant-loop-word l = record {
  words : l.bytes.items ++ joined (words l.rest) ≡ l.fn.bytes.items ++ joined (words l.line);
  kept : take (length l.fn.bytes.items) l.bytes.items ≡ l.fn.bytes.items;
}

abbrev pub decreases-loop-word : goal.decreases-loop-word
decreases-loop-word l = length l.rest

use Rattle.std.proofs.Common.{◌≡◌, ◌++◌, length, take}
use Rattle.line_kit.specs.Lines.{joined, lines, with_text}
use Rattle.line_flow.proofs.found.add_found.Given as goal

abbrev pub invariant-loop-line : goal.invariant-loop-line
invariant-loop-line l = record {
  found : l.bytes.items ++ joined (with_text l.finder (lines l.rest)) ≡ l.fn.bytes.items ++ joined (with_text l.finder (lines l.block));
  kept : take (length l.fn.bytes.items) l.bytes.items ≡ l.fn.bytes.items;
}

abbrev pub decreases-loop-line : goal.decreases-loop-line
decreases-loop-line l = length l.rest

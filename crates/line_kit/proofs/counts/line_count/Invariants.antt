use Rattle.std.proofs.Common.{◌≡◌, ◌≤◌, ◌*◌, ◌^◌, length, take}
use Rattle.line_kit.specs.Lines.{all_lines}
use Rattle.line_kit.proofs.counts.line_count.Given as goal

abbrev pub invariant-loop-input : goal.invariant-loop-input
invariant-loop-input l = (l.total ≡ length (all_lines (take l.input-index l.inputs))) × (l.total ≤ l.input-index * 2 ^ 63)

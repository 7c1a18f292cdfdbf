use Rattle.std.proofs.Common.{◌≡◌, ◌++◌, length}
use Rattle.line_kit.specs.Lines.{lines, all_lines}
use Rattle.line_kit.proofs.lines.Lines.next_line.Given as goal

abbrev pub invariant-loop-self : goal.invariant-loop-self
invariant-loop-self l = lines l.self-inside.rest.now ++ all_lines l.self-inside.inputs.now ≡ l.fn.self

abbrev pub decreases-loop-self : goal.decreases-loop-self
decreases-loop-self l = length l.self-inside.inputs.now

use Rattle.std.proofs.Common.{◌≡◌, length}
use Rattle.line_kit.specs.Lines.{lines, same_lines}
use Rattle.line_kit.proofs.same.same_lines.Given as goal

abbrev pub invariant-loop-line : goal.invariant-loop-line
invariant-loop-line l = same_lines l.ones l.others ≡ same_lines (lines l.one) (lines l.other)

abbrev pub decreases-loop-line : goal.decreases-loop-line
decreases-loop-line l = length l.ones

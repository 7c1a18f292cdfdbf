use Rattle.std.proofs.Common.{◌≡◌, ◌++◌, length, map}
use Rattle.line_kit.specs.Lines.{all_lines}
use Rattle.line_kit.proofs.lines.list.Given as goal

abbrev pub invariant-loop-line : goal.invariant-loop-line
invariant-loop-line l = map (λ line. line.now) l.all.items ++ l.lines ≡ all_lines l.inputs

abbrev pub decreases-loop-line : goal.decreases-loop-line
decreases-loop-line l = length l.lines

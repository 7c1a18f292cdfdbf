use Rattle.std.proofs.Common.{◌≡◌, length}
use Rattle.line_kit.specs.Lines.{with_text, lines, joined}
use Rattle.line_kit.specs.Written.{extended}
use Rattle.line_kit.proofs.search.put_found.Given as goal

abbrev pub invariant-loop-line : goal.invariant-loop-line
invariant-loop-line l = extended l.out (joined (with_text l.finder (lines l.rest))) ≡ extended l.fn.out (joined (with_text l.finder (lines l.bytes)))

abbrev pub decreases-loop-line : goal.decreases-loop-line
decreases-loop-line l = length l.rest

use Rattle.std.proofs.Common.{◌≡◌, length}
use Rattle.std.specs.List.{flat_map}
use Rattle.line_kit.specs.Lines.{all_lines, joined}
use Rattle.line_kit.specs.Words.{words}
use Rattle.line_kit.specs.Written.{capped, extended}
use Rattle.line_kit.proofs.words.words.Given as goal

abbrev pub invariant-loop-line : goal.invariant-loop-line
invariant-loop-line l = extended l.out (joined (flat_map words l.lines)) ≡ capped (joined (flat_map words (all_lines l.inputs)))

abbrev pub decreases-loop-line : goal.decreases-loop-line
decreases-loop-line l = length l.lines

use Rattle.std.proofs.Common.{◌≡◌, length}
use Rattle.line_kit.specs.Lines.{joined}
use Rattle.line_kit.specs.Words.{words}
use Rattle.line_kit.specs.Written.{extended}
use Rattle.line_kit.proofs.words.put_words.Given as goal

abbrev pub invariant-loop-word : goal.invariant-loop-word
invariant-loop-word l = extended l.out (joined (words l.rest)) ≡ extended l.fn.out (joined (words l.line))

abbrev pub decreases-loop-word : goal.decreases-loop-word
decreases-loop-word l = length l.rest

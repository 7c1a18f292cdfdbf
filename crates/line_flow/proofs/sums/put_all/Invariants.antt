use Rattle.std.proofs.Common.{◌≡◌, drop}
use Rattle.line_kit.specs.Lines.{joined}
use Rattle.line_kit.specs.Written.{extended}
use Rattle.line_kit.proofs.SumsLaw.{count_lines}
use Rattle.line_flow.specs.Entries.{lent}
use Rattle.line_flow.proofs.sums.put_all.Given as goal

abbrev pub invariant-loop-line : goal.invariant-loop-line
invariant-loop-line l = extended l.out (joined (count_lines (lent (drop l.line-index l.sums)))) ≡ extended l.fn.out (joined (count_lines (lent l.sums)))

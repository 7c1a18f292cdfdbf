use Rattle.std.proofs.Common.{◌≡◌, take}
use Rattle.line_flow.specs.Entries.{lent}
use Rattle.line_flow.proofs.totals.copied.Given as goal

abbrev pub invariant-loop-line : goal.invariant-loop-line
invariant-loop-line l = l.all ≡ lent (take l.line-index l.sums)

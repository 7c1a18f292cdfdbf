use Rattle.std.proofs.Common.{◌≡◌, ◌-ℤ◌}
use Rattle.sky_base.specs.Op.{join, numbers, span}
use Rattle.sky_base_scope.proofs.ops.numbers.Given as goal

abbrev pub invariant-loop-next : goal.invariant-loop-next
invariant-loop-next l = join l.numbers (numbers (span (l.to -ℤ l.next)) l.next) ≡ numbers (span (l.to -ℤ l.from)) l.from

abbrev pub decreases-loop-next : goal.decreases-loop-next
decreases-loop-next l = span (l.to -ℤ l.next)

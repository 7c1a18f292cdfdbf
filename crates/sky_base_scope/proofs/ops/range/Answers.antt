use Rattle.std.proofs.Common.{◌-ℤ◌, ◌≤ℤ◌, pos, arith}
use Rattle.std.proofs.lemmas.Int.{ints}
use mir.Val.{to_z, of_z}
use mir.Syntax.{w64}
use Rattle.sky_base_scope.proofs.OpLaw.{numbers_kept, span_least}
use Rattle.sky_base.specs.Op.{span}
use Rattle.sky_base_scope.proofs.ops.range.Goals as goal

pub returns-clause-kept : goal.returns-clause-kept
returns-clause-kept c =
    let from = to_z w64 (of_z w64 c.in-Int.from) in
    let to = to_z w64 (of_z w64 c.in-Int-to.to) in
    let h : (to -ℤ from) ≤ℤ pos 262143 = omega (arith, ints, c.if-to-from-gt262143.false) in
    rw c.in_ok-numbers.ensures (numbers_kept (span (to -ℤ from)) from (span_least (to -ℤ from) h))

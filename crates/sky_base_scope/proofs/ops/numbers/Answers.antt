use Rattle.std.proofs.Common.{rules, ◌∙◌, ◌+ℤ◌, pos}
use Rattle.std.specs.Int.Signed.{◌<ℤ◌, lt_z, lt_z_yes}
use Rattle.std.proofs.lemmas.Int.{to_z-of_z}
use Rattle.std.proofs.lemmas.Float.{T_from_true}
use mir.Val.{SFits, to_z, of_z}
use mir.Syntax.{w64}
use Rattle.sky_base_scope.proofs.OpLaw.{numbers_step}
use Rattle.sky_base_scope.proofs.ops.numbers.Goals as goal

pub loop-next-preserved : goal.loop-next-preserved
loop-next-preserved c =
    let next = to_z w64 c.loop-next.next-bits in
    let to = to_z w64 (of_z w64 c.args.to) in
    let f : SFits w64 (next +ℤ pos 1) = search rules in
    let h : next <ℤ to = lt_z_yes (T_from_true (lt_z next to) c.loop-next-test.true) in
    rw (to_z-of_z w64 (next +ℤ pos 1) f, c.in_ok-push.ensures.ok) (numbers_step c.loop-next.numbers next to h ∙ c.loop-next.invariant)

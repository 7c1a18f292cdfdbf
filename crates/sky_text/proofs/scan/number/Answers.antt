-- Further digits only make a number greater.
use Rattle.std.proofs.Common.{◌+◌, ◌-◌, ◌*◌, ◌<◌, get_or, drop, sym, ◌∙◌, arith}
use Rattle.sky_text.specs.Lexing.{number_of}
use Rattle.sky_text.proofs.Leaves.{number_step, number_too_big}
use Rattle.sky_text.proofs.scan.number.Goals as goal

pub returns-then-more-gt9223372036854775807 : goal.returns-then-more-gt9223372036854775807
returns-then-more-gt9223372036854775807 c =
    let digits = c.args.digits.now in
    let i = c.loop-digit.digit-index in
    let more = c.loop-digit.value * 10 + (get_or digits i 0 - 48) in
    let big : 9223372036854775807 < more = omega (arith, c.if-more-gt9223372036854775807.true, c.from.ensures, c.from-in-loop-digit.ensures) in
    sym (number_too_big c.args.at more (drop (i + 1) digits) (number_of digits)
    (sym (number_step c.loop-digit.value digits i c.loop-digit-test.true) ∙ c.loop-digit.invariant.left) big)

-- Further digits only make a number greater.
use Rattle.std.proofs.Common.{◌≡◌, true, ◌+◌, ◌-◌, ◌*◌, ◌<◌, ◌≤◌, ℕ, get_or, drop, sym, ap, ◌∙◌, arith, rules}
use Rattle.std.specs.Str.Parse.{digits_value, digits_value_after}
use Rattle.line_kit.specs.Numbers.{is_digits}
use Rattle.line_kit.proofs.Digits.{value_step, value_grows, number_none}
use Rattle.line_kit.proofs.numbers.number_up_to.Goals as goal

pub returns-then-more-from : goal.returns-then-more-from
returns-then-more-from c =
    let digits = c.args.bytes.now in
    let i = c.loop-digit.digit-index in
    let more = c.loop-digit.value * 10 + (get_or digits i 0 - 48) in
    let all : is_digits digits ≡ true = search rules in
    let big : c.args.most < more = omega (arith, c.if-more-from.true, c.from.ensures, c.from-in-loop-digit.ensures, c.from-in-loop-digit-2.ensures) in
    let grown : more ≤ digits_value 10 digits =
    omega (
      arith,
      value_grows more (drop (i + 1) digits),
      sym (value_step c.loop-digit.value digits i all c.loop-digit-test.true)
          ∙ c.loop-digit.invariant.left,
    ) in
    sym (number_none c.args.most digits (omega (arith, big, grown)))

pub loop-digit-preserved : goal.loop-digit-preserved
loop-digit-preserved c =
    let digits = c.args.bytes.now in
    let i = c.loop-digit.digit-index in
    let all : is_digits digits ≡ true = search rules in
    let more : c.from.result * 10 + c.from-in-loop-digit.result ≡ c.loop-digit.value * 10 + (get_or digits i 0 - 48) =
    omega (arith, c.from.ensures, c.from-in-loop-digit.ensures) in
    record {
      left =
          ap (λ (n : ℕ). digits_value_after 10 n (drop (i + 1) digits)) more
          ∙ sym (value_step c.loop-digit.value digits i all c.loop-digit-test.true) ∙ c.loop-digit.invariant.left;
      small = omega (arith, c.if-more-from.false, c.from-in-loop-digit-2.ensures);
    }

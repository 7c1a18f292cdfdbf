use Rattle.std.proofs.Common.{◌≡◌, ◌≤◌, drop}
use Rattle.std.specs.Str.Parse.{digits_value, digits_value_after}
use Rattle.line_kit.proofs.numbers.number_up_to.Given as goal

abbrev pub invariant-loop-digit : goal.invariant-loop-digit
invariant-loop-digit l = record {
  left : digits_value_after 10 l.value (drop l.digit-index l.bytes) ≡ digits_value 10 l.bytes;
  small : l.value ≤ l.most;
}

use Rattle.std.proofs.Common.{◌≡◌, ◌≤◌, drop}
use Rattle.sky_text.specs.Lexing.{number_of}
use Rattle.sky_text.proofs.Leaves.{number_past}
use Rattle.sky_text.proofs.scan.number.Given as goal

abbrev pub invariant-loop-digit : goal.invariant-loop-digit
invariant-loop-digit l = record {
  left : number_past l.value (drop l.digit-index l.digits) ≡ number_of l.digits;
  small : l.value ≤ 9223372036854775807;
}

use Rattle.std.proofs.Common.{◌≡◌, length, map, int_div, pos}
use Rattle.std.specs.Fmt.{signed_decimal}
use Rattle.std.specs.Option.{option_map}
use Rattle.line_kit.specs.Lines.{all_lines, joined}
use Rattle.line_kit.specs.Numbers.{signed_number}
use Rattle.line_kit.specs.Gives.{read_each}
use Rattle.line_kit.specs.Written.{capped, extended}
use Rattle.line_kit.proofs.numbers.half.Given as goal

abbrev pub invariant-loop-line : goal.invariant-loop-line
invariant-loop-line l =
    option_map (λ zs. extended l.out (joined (map (λ z. signed_decimal (int_div z (pos 2))) zs))) (read_each signed_number l.lines)
    ≡ option_map (λ zs. capped (joined (map (λ z. signed_decimal (int_div z (pos 2))) zs))) (read_each signed_number (all_lines l.inputs))

abbrev pub decreases-loop-line : goal.decreases-loop-line
decreases-loop-line l = length l.lines

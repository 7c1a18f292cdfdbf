use Rattle.std.proofs.Common.{◌≡◌, drop}
use Rattle.line_kit.specs.Lines.{all_lines, joined}
use Rattle.line_kit.specs.Written.{capped, extended}
use Rattle.line_kit.proofs.picks.cat.Given as goal

abbrev pub invariant-loop-input : goal.invariant-loop-input
invariant-loop-input l = extended l.out (joined (all_lines (drop l.input-index l.inputs))) ≡ capped (joined (all_lines l.inputs))

use Rattle.std.proofs.Common.{◌≡◌, drop}
use Rattle.line_kit.specs.Lines.{with_text, all_lines, joined}
use Rattle.line_kit.specs.Written.{capped, extended}
use Rattle.line_kit.proofs.search.grep.Given as goal

abbrev pub invariant-loop-input : goal.invariant-loop-input
invariant-loop-input l =
    extended l.out (joined (with_text l.text (all_lines (drop l.input-index l.inputs)))) ≡ capped (joined (with_text l.text (all_lines l.inputs)))

use Rattle.std.proofs.Common.{◌≡◌, ◌<◌, ℕ, length, None, get_or}
use Rattle.line_kit.specs.Lines.{all_lines, joined}
use Rattle.line_kit.specs.Parts.{every}
use Rattle.line_kit.specs.Written.{capped, extended}
use Rattle.line_kit.proofs.parts.deal.Given as goal

abbrev pub invariant-loop-line : goal.invariant-loop-line
invariant-loop-line l = record {
  count : length l.all.items ≡ l.outputs;
  turn : l.turn < l.outputs;
  dealt : (i : ℕ) → i < l.outputs
      → extended (get_or l.all.items i None) (joined (every l.outputs i l.turn l.lines)) ≡ capped (joined (every l.outputs i 0 (all_lines l.inputs)));
}

abbrev pub decreases-loop-line : goal.decreases-loop-line
decreases-loop-line l = length l.lines

-- The lines so far, and those that come after them.
use Rattle.std.proofs.Common.{◌≡◌, ◌<◌, ◌^◌, ◌++◌, ◌-◌}
use Rattle.ciel_run_load.specs.Lines.{generated, lines_after}
use Rattle.ciel_run_load.proofs.lines.generate.Given as goal

abbrev pub invariant-loop-line : goal.invariant-loop-line
invariant-loop-line l = record {
  below : l.number < 2 ^ 31;
  lines : l.text.items ++ lines_after (l.lines - l._line) l.number ≡ generated l.lines;
}

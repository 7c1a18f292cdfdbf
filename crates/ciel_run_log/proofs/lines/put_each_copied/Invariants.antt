-- The names so far were put, and no fault was taken back.
use Rattle.std.proofs.Common.{◌≤◌, take}
use Rattle.ciel_io.specs.Tells.{Tells}
use Rattle.ciel_run_log.specs.Text.{copied_texts}
use Rattle.ciel_run_log.proofs.lines.put_each_copied.Given as goal

abbrev pub invariant-loop-name : goal.invariant-loop-name
invariant-loop-name g l = record {
  written : Tells (g.J.Sink.written l.initial.log) (g.J.Sink.written l.log) (copied_texts (take l.name-index l.copied));
  never_falls : g.J.Sink.faults l.initial.log ≤ g.J.Sink.faults l.log;
}

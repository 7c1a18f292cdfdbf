-- The outputs so far were put, and no fault was taken back.
use Rattle.std.proofs.Common.{◌≤◌, take}
use Rattle.ciel_io.specs.Tells.{Tells}
use Rattle.ciel_run_log.specs.Text.{made_texts}
use Rattle.ciel_run_log.proofs.lines.put_each_made.Given as goal

abbrev pub invariant-loop-output : goal.invariant-loop-output
invariant-loop-output g l = record {
  written : Tells (g.J.Sink.written l.initial.log) (g.J.Sink.written l.log) (made_texts (take l.output-index l.made));
  never_falls : g.J.Sink.faults l.initial.log ≤ g.J.Sink.faults l.log;
}

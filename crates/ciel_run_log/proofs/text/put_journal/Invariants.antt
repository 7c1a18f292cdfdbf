-- The lines so far were put, and no fault was taken back.
use Rattle.std.proofs.Common.{◌≤◌, take}
use Rattle.ciel_io.specs.Tells.{Tells}
use Rattle.ciel_run_log.specs.Text.{journal_text}
use Rattle.ciel_run_log.proofs.text.put_journal.Given as goal

abbrev pub invariant-loop-entry : goal.invariant-loop-entry
invariant-loop-entry g l = record {
  written : Tells (g.J.Sink.written l.initial.log) (g.J.Sink.written l.log) (journal_text (take l.entry-index l.journal));
  never_falls : g.J.Sink.faults l.initial.log ≤ g.J.Sink.faults l.log;
}

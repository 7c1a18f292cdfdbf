-- The names so far were put, and no fault was taken back.
use Rattle.std.proofs.Common.{◌≤◌, take}
use Rattle.std.specs.List.{flat_map}
use Rattle.ciel_io.specs.Tells.{Tells}
use Rattle.ciel_run_log.specs.Message.{spaced}
use Rattle.ciel_run_log.proofs.message.put_names.Given as goal

abbrev pub invariant-loop-name : goal.invariant-loop-name
invariant-loop-name g l = record {
  written : Tells (g.J.Sink.written l.initial.log) (g.J.Sink.written l.log) (flat_map spaced (take l.name-index l.names));
  never_falls : g.J.Sink.faults l.initial.log ≤ g.J.Sink.faults l.log;
}

use Rattle.std.proofs.Common.{◌≡◌, ◌++◌, ◌-◌}
use Rattle.ciel_journal.specs.Turns.{idle_from, idle_workers}
use Rattle.ciel_journal.proofs.turn.idle.Given as goal

abbrev pub invariant-loop-worker : goal.invariant-loop-worker
invariant-loop-worker l =
    l.idle.items ++ idle_from l.gone l.busy l.worker (l.workers - l.worker) ≡ idle_workers l.workers l.gone l.busy

use Rattle.std.proofs.Common.{take}
use Rattle.ciel_journal.specs.Flags.{Sets}
use Rattle.ciel_journal.proofs.turn.set_flags.Given as goal

abbrev pub invariant-loop-i : goal.invariant-loop-i
invariant-loop-i l = Sets (take l.i l.workers) l.initial.flags.items l.flags.items

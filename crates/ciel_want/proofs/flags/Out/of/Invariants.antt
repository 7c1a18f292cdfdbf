use Rattle.std.proofs.Common.{drop}
use Rattle.ciel_want.proofs.OutFlags.{Outing}
use Rattle.ciel_want.proofs.flags.Out.of.Given as goal

abbrev pub invariant-loop-i : goal.invariant-loop-i
invariant-loop-i g l = Outing l.table l.tasks (drop l.i l.tasks) l.rows.items l.show

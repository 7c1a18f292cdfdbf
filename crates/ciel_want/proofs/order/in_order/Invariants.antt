use Rattle.ciel_want.proofs.FlaggedTasks.{Listing}
use Rattle.ciel_want.proofs.order.in_order.Given as goal

abbrev pub invariant-loop-row : goal.invariant-loop-row
invariant-loop-row g l = Listing l.table l.fn.flags.items l.root l.flags.items l.tasks.items l.row

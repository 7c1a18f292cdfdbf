-- No order so far has the number.
use Rattle.ciel_log_report.proofs.Found.{NoneBefore}
use Rattle.ciel_log_report.proofs.take.order_of.Given as goal

abbrev pub invariant-loop-slot : goal.invariant-loop-slot
invariant-loop-slot l = NoneBefore l.out l.number l.slot-index

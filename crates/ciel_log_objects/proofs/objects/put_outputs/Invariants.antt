-- So many of the outputs stand in the list.
use Rattle.ciel_log_objects.proofs.Built.{MadeTo}
use Rattle.ciel_log_objects.proofs.objects.put_outputs.Given as goal

abbrev pub invariant-loop-index : goal.invariant-loop-index
invariant-loop-index g l = MadeTo l.shelves l.worker l.script l.known l.names l.objects l.fn.kept l.index l.made.items l.kept

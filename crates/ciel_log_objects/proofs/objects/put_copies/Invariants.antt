-- So many of the copies stand in the list.
use Rattle.ciel_log_objects.proofs.Built.{CopiesTo}
use Rattle.ciel_log_objects.proofs.objects.put_copies.Given as goal

abbrev pub invariant-loop-name : goal.invariant-loop-name
invariant-loop-name g l = CopiesTo l.shelves l.worker l.script l.known l.kept l.names l.name-index l.copies.items

use Rattle.ciel_journal.proofs.DueLaw.{Below}
use Rattle.ciel_journal.proofs.turn.first_due.Given as goal

abbrev pub invariant-loop-i : goal.invariant-loop-i
invariant-loop-i l = Below l.losses l.closes l.gone l.i l.first

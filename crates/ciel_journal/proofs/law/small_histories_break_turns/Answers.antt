use Rattle.ciel_journal.proofs.SmallTurns as t
use Rattle.ciel_journal.proofs.law.small_histories_break_turns.Goals as goal

pub returns-clause-undone : goal.returns-clause-undone
returns-clause-undone c = t.undone

pub returns-clause-unheeded : goal.returns-clause-unheeded
returns-clause-unheeded c = t.unheeded

pub returns-clause-order : goal.returns-clause-order
returns-clause-order c = t.order

pub returns-clause-task : goal.returns-clause-task
returns-clause-task c = t.task

pub returns-clause-worker : goal.returns-clause-worker
returns-clause-worker c = t.worker

pub returns-clause-done : goal.returns-clause-done
returns-clause-done c = t.done

pub returns-clause-saved : goal.returns-clause-saved
returns-clause-saved c = t.saved

pub returns-clause-missed : goal.returns-clause-missed
returns-clause-missed c = t.missing

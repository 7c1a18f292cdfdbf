use Rattle.ciel_journal.specs.History.{standing}
use Rattle.ciel_journal.proofs.Near.{ready_or_round}
use Rattle.ciel_journal.proofs.law.ready_or_circle.Goals as goal

pub returns : goal.returns
returns g c = record { answer = λ job laws p h l none. ready_or_round job laws (standing job h) none }

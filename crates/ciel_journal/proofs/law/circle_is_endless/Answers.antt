use Rattle.ciel_journal.proofs.Good.{lawful_circle}
use Rattle.ciel_journal.proofs.law.circle_is_endless.Goals as goal

pub returns : goal.returns
returns g c = record { endless = λ job laws p h l ds k. lawful_circle job laws p h l ds k }

use Rattle.ciel_journal.proofs.Started.{few_between}
use Rattle.ciel_journal.proofs.law.few_between.Goals as goal

pub returns : goal.returns
returns g c = record { starts = λ job laws m work p before stretch rest l none. few_between job laws m work p before stretch rest l none }

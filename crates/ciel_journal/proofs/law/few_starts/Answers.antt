use Rattle.ciel_journal.proofs.Started.{few_starts}
use Rattle.ciel_journal.proofs.law.few_starts.Goals as goal

pub returns : goal.returns
returns g c = record { starts = λ job laws m work p h l. few_starts job laws m work p h l }

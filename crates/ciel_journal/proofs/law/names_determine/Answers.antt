use Rattle.ciel_journal.proofs.Unique.{names_determine}
use Rattle.ciel_journal.proofs.law.names_determine.Goals as goal

pub returns : goal.returns
returns g c = record { history = λ job laws p q a b l m e. names_determine job laws p q a b l m e }

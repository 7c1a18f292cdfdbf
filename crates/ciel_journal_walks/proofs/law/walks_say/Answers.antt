use Rattle.ciel_journal_walks.proofs.WalkResults.{walks, walks_true}
use Rattle.ciel_journal_walks.proofs.law.walks_say.Goals as goal

pub returns : goal.returns
returns c = record {
  says = λ tag mark frozen job around plain o finds r ms e b walk. walks tag mark frozen job around plain o finds r b ms e walk;
  truly = λ tag mark frozen job around plain o finds r ms e b walk. walks_true tag mark frozen job around plain o finds r b ms e walk;
}

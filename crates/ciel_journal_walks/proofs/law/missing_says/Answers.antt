use Rattle.ciel_journal_walks.proofs.WalkResults.{missing_one}
use Rattle.ciel_journal_walks.proofs.law.missing_says.Goals as goal

pub returns : goal.returns
returns c =
    record {
      says = λ tag mark frozen job around plain o finds r name loss b answered. missing_one tag mark frozen job around plain o finds r b
          answered name loss;
    }

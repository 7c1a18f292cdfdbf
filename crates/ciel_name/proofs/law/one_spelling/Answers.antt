use Rattle.ciel_name.proofs.Canon.{one_spelling, one_canon}
use Rattle.ciel_name.proofs.law.one_spelling.Goals as goal

pub returns-clause-values : goal.returns-clause-values
returns-clause-values c = one_spelling

pub returns-clause-descriptions : goal.returns-clause-descriptions
returns-clause-descriptions c = one_canon

use Rattle.ciel_want.proofs.HistoryAgreement.{history_agrees}
use Rattle.ciel_want.proofs.HistoryTables.{lawful_agrees}
use Rattle.ciel_want.proofs.law.history_agrees.Goals as goal

pub returns-clause-agree : goal.returns-clause-agree
returns-clause-agree g c job laws v main t out his = history_agrees job laws v main t out his

pub returns-clause-lawful : goal.returns-clause-lawful
returns-clause-lawful g c job laws inner knows p h l main t out k = lawful_agrees job laws inner knows p h l main t out k

use Rattle.ciel_journal.specs.History.{before_all}
use Rattle.ciel_journal.proofs.Append.{after_append, driven_append, driven_split, journal_last, lawful_append}
use Rattle.ciel_journal.proofs.law.histories_go_on.Goals as goal

pub returns-clause-lawful : goal.returns-clause-lawful
returns-clause-lawful g c job laws p h l e s = lawful_append job p (before_all job) h e l s

pub returns-clause-driven : goal.returns-clause-driven
returns-clause-driven g c job p h e d s t = driven_append job p (before_all job) h e d s t

pub returns-clause-stands : goal.returns-clause-stands
returns-clause-stands g c job h e = (after_append job (before_all job) h e, journal_last job h e)

pub returns-clause-parts : goal.returns-clause-parts
returns-clause-parts g c job p a b d = driven_split job p (before_all job) a b d

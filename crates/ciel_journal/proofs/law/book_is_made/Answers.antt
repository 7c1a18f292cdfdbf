use Rattle.ciel_journal.proofs.Traced.{traced}
use Rattle.ciel_journal.proofs.law.book_is_made.Goals as goal

pub returns-clause-book : goal.returns-clause-book
returns-clause-book g c job laws p h l d i = (traced job laws p h l).book d i

pub returns-clause-open : goal.returns-clause-open
returns-clause-open g c job laws p h l o i = (traced job laws p h l).orders o i

pub returns-clause-saved : goal.returns-clause-saved
returns-clause-saved g c job laws p h l s i = (traced job laws p h l).saves s i

use Rattle.ciel_journal.proofs.ByName.{book_one, driven_lawful, entered_alike, never_named, placed_alike}
use Rattle.ciel_journal.proofs.law.journals_alone.Goals as goal

pub returns-clause-lawful : goal.returns-clause-lawful
returns-clause-lawful g c job laws p J d = driven_lawful job p J d

pub returns-clause-book : goal.returns-clause-book
returns-clause-book g c job laws p J a b x y = book_one job laws p J a b x y

pub returns-clause-endless : goal.returns-clause-endless
returns-clause-endless g c job laws p J names k = never_named job laws p J names k

pub returns-clause-entered : goal.returns-clause-entered
returns-clause-entered g c job w h = entered_alike job w h

pub returns-clause-placed : goal.returns-clause-placed
returns-clause-placed g c job laws p h l d i w = placed_alike job laws p h l d i w

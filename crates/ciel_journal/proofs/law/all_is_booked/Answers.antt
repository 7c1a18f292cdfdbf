use Rattle.ciel_journal.proofs.Startable.{open_booked, placed_booked, reached_needs, saved_booked, informed}
use Rattle.ciel_journal.specs.History.{standing}
use Rattle.ciel_journal.proofs.BookKnown.{informed_step}
use Rattle.ciel_journal.proofs.law.all_is_booked.Goals as goal

pub returns-clause-whole : goal.returns-clause-whole
returns-clause-whole g c job laws inner knows p h l d i = (informed job laws inner knows p h l).whole d i

pub returns-clause-placed : goal.returns-clause-placed
returns-clause-placed g c job laws inner knows p h l d w i = placed_booked job laws inner knows p h l d w i

pub returns-clause-saved : goal.returns-clause-saved
returns-clause-saved g c job laws inner knows p h l s i = saved_booked job laws inner knows p h l s i

pub returns-clause-open : goal.returns-clause-open
returns-clause-open g c job laws inner knows p h l o i d k = open_booked job laws inner knows p h l o i d k

pub returns-clause-new : goal.returns-clause-new
returns-clause-new g c job laws inner knows p h l e a d i =
    (informed_step job laws inner knows p (standing job h) e (informed job laws inner knows p h l) a).whole d i

pub returns-clause-heads : goal.returns-clause-heads
returns-clause-heads g c job laws inner knows p h l = (informed job laws inner knows p h l).heads

pub returns-clause-reached : goal.returns-clause-reached
returns-clause-reached g c job laws inner knows p h l t r = reached_needs job laws inner knows p h l t r

use Rattle.ciel_journal.proofs.OpenTold.{open_told, saved_told}
use Rattle.ciel_journal.proofs.Started.{live_text}
use Rattle.ciel_journal.proofs.Told.{book_told, closes_told, starts_told}
use Rattle.ciel_journal.proofs.Begins.{began}
use Rattle.ciel_journal.proofs.ByName.{placed_text}
use Rattle.ciel_journal.proofs.Ends.{gone_told, over_told}
use Rattle.std.proofs.Common.{[], ◌∷◌, subst, sym}
use Rattle.ciel_journal.specs.Job.{Once}
use Rattle.ciel_journal.specs.Live.{spawned_of}
use Rattle.ciel_journal.proofs.OnceLaw.{once_learned}
use Rattle.ciel_journal.proofs.law.live_is_told.Goals as goal

pub returns-clause-live : goal.returns-clause-live
returns-clause-live g c job laws p h l d = live_text job laws p h l d

pub returns-clause-counts : goal.returns-clause-counts
returns-clause-counts g c job laws h = (starts_told job laws h, closes_told job h)

pub returns-clause-book : goal.returns-clause-book
returns-clause-book g c job laws p h l = book_told job laws p h l

pub returns-clause-open : goal.returns-clause-open
returns-clause-open g c job laws p h l k w t from = open_told job laws p h l k w t from

pub returns-clause-saved : goal.returns-clause-saved
returns-clause-saved g c job laws p h l s = saved_told job laws p h l s

pub returns-clause-places : goal.returns-clause-places
returns-clause-places g c job laws p h l d w = placed_text job laws p h l d w

pub returns-clause-gone : goal.returns-clause-gone
returns-clause-gone g c job h w = gone_told job h w

pub returns-clause-over : goal.returns-clause-over
returns-clause-over g c job laws p h l = over_told job laws p h l

pub returns-clause-stood : goal.returns-clause-stood
returns-clause-stood g c job h o i = let m = began job h o i in record { before = m.before; rest = m.rest; whole = m.whole; stood = m.stood }

pub returns-clause-once : goal.returns-clause-once
returns-clause-once g c job laws p h l = subst (Once []) (sym (book_told job laws p h l))
    (once_learned job laws (job.main ∷ []) (spawned_of h) (λ i. i, tt))

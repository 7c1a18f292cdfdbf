-- The journal as the code keeps it: names in place of descriptions, and nothing of what was spawned, waited for or held.
use Rattle.std.specs.Prelude.{ℕ, List, [], ◌∷◌}
use Rattle.ciel_journal.specs.Job.{Digest, Task, show, of, Job}
use Rattle.ciel_journal.specs.History.{Event, start, done, saved, missed, lost}

pub data Entry : Type 0 where
  Start : (number worker : ℕ) → Task Digest → (from : ℕ) → Entry
  Done : (number : ℕ) → (made : List (Digest × Digest)) → (copied : List Digest) → Entry
  Saved : (number j : ℕ) → (mark : Digest) → Entry
  Missed : (number : ℕ) → (name : Digest) → (lost : ℕ) → Entry
  Lost : (worker after : ℕ) → Entry

module _ {D : Type 0} (job : Job D) where
  abbrev pub low_task : Task D → Task Digest
  low_task show = show
  low_task (of d) = of (job.name d)

  abbrev pub low_names : List D → List Digest
  low_names [] = []
  low_names (d ∷ ds) = job.name d ∷ low_names ds

  abbrev pub low_made : List (D × Digest) → List (Digest × Digest)
  low_made [] = []
  low_made (m ∷ ms) = (job.name m.0, m.1) ∷ low_made ms

  abbrev pub low : Event D → Entry
  low (start k w t from) = Entry.Start k w (low_task t) from
  low (done k made copied spawned) = Entry.Done k (low_made made) (low_names copied)
  low (saved k j mark refs holds spawned) = Entry.Saved k j mark
  low (missed k d loss) = Entry.Missed k (job.name d) loss
  low (lost w closes) = Entry.Lost w closes

  -- the journal of a history
  abbrev pub journal_of : List (Event D) → List Entry
  journal_of [] = []
  journal_of (e ∷ es) = low e ∷ journal_of es

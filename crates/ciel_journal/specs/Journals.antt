-- Journals said by themselves, over names: some history stands behind them.
use Rattle.std.specs.Prelude.{◌≡◌, ℕ, List, [], ◌∷◌, cond, nat_eq, ◌⊎◌}
use Rattle.ciel_journal.specs.Job.{Digest, Task, Job, In}
use Rattle.ciel_journal.specs.History.{Event, Plan, names_of, standing}
use Rattle.ciel_journal.specs.Lawful.{Lawful}
use Rattle.ciel_journal.specs.Turns.{CircleAtRest, Driven}
use Rattle.ciel_journal.specs.Entries.{Entry, journal_of, low_names}

-- ---- said of its entries alone

-- the tasks that a worker was given, in order
abbrev pub entered_in : ℕ → List Entry → List (Task Digest)
entered_in w [] = []
entered_in w (Entry.Start k u t from ∷ es) = cond (nat_eq w u) (t ∷ entered_in w es) (entered_in w es)
entered_in w (Entry.Done k made copied ∷ es) = entered_in w es
entered_in w (Entry.Saved k j mark ∷ es) = entered_in w es
entered_in w (Entry.Missed k name loss ∷ es) = entered_in w es
entered_in w (Entry.Lost u closes ∷ es) = entered_in w es

-- a Start at w has a Done with this name among what was made or copied
pub record NamePublished (J : List Entry) (w : ℕ) (name : Digest) : Type 0 where
  pub number : ℕ
  pub task : Task Digest
  pub from : ℕ
  pub begun : In (Entry.Start number w task from) J
  pub made : List (Digest × Digest)
  pub copied : List Digest
  pub ended : In (Entry.Done number made copied) J
  pub has : In name (names_of made) ⊎ In name copied

abbrev pub WorkerLost : List Entry → ℕ → Type 0
WorkerLost J w = (c : ℕ) × In (Entry.Lost w c) J

-- w has the object of this name
abbrev pub NameAt : List Entry → ℕ → Digest → Type 0
NameAt J w name = NamePublished J w name × (WorkerLost J w → ⊥)

-- ---- said of a history that has this journal

module _ {D : Type 0} (job : Job D) (p : Plan) (J : List Entry) where
  -- a lawful history with this journal
  pub record Behind (h : List (Event D)) : Type 0 where
    pub lawful : Lawful job p h
    pub journal : journal_of job h ≡ J

  abbrev pub LawfulJournal : Type 0
  LawfulJournal = (h : List (Event D)) × Behind h

  -- and a driven one
  abbrev pub DrivenJournal : Type 0
  DrivenJournal = (h : List (Event D)) × Driven job p h × (journal_of job h ≡ J)

  -- these descriptions are known after it
  abbrev pub BookOf : List D → Type 0
  BookOf ds = (h : List (Event D)) × Behind h × ((standing job h).book ≡ ds)

  -- nothing is open after it, and the tasks of what has these names wait for each other in a circle
  abbrev pub CircleOf : List Digest → Type 0
  CircleOf names =
      (h : List (Event D)) × Behind h × (ds : List D) × CircleAtRest job (standing job h) ds × (low_names job ds ≡ names)

-- Histories of the real job, in the meaning's words.
use Rattle.std.specs.Prelude.{◌≡◌, ℕ, ◌+◌, ◌*◌, ◌≤◌, List, [], ◌∷◌, ◌++◌, true, false, Some, ◌⊎◌}
use Rattle.sky_base.specs.Needed as n
use Rattle.sky_base.specs.See as s
use Rattle.sky_base_law.specs.Tasks as t
use Rattle.sky_base_law.specs.Refers.{PlainReads}
use Rattle.sky_base_law.specs.Sound.{SoundReads}
use Rattle.ciel_journal.specs.Job.{Digest, Job, Task, In}
use Rattle.ciel_journal.specs.History.{Event, Plan, Standing, done, last, saved, standing, start}
use Rattle.ciel_journal.specs.Lawful.{Lawful}
use Rattle.ciel_journal.specs.Turns.{CircleAtRest, IsReadyList, Ready, idle}
use Rattle.ciel_journal.specs.Work.{losses_of, starts_of}
use Rattle.ciel_journal_job.specs.Real.{back}
use Rattle.ciel_journal_job.specs.RealLaws.{OfReal, the}

-- d is seen as this object, and as no other
pub record SeenAs (job : s.Job) (around : s.Around) (d : s.Desc) (o : s.Obj) : Type 0 where
  pub seen : (k : ℕ) × (s.see job around k d ≡ Some o)
  pub only : (k : ℕ) (other : s.Obj) → s.see job around k d ≡ Some other → other ≡ o

-- what is saved has the mark of the state in which its task stands, what that holds, and what it waits for there
pub record SavedAs (job : s.Job) (around : s.Around) (frozen : n.State → Digest) (u : n.Task) (j : ℕ) (m : Digest)
    (refs holds : List s.Desc) : Type 0 where
  pub state : n.State
  pub stands : n.StandsAt job around u j state
  pub marked : m ≡ frozen state
  pub held : holds ≡ t.held state
  pub waits : n.WaitOf job around u j refs

-- a history of the job that a script means, whatever its names and marks are
module _ (job : s.Job) (around : s.Around) (name : s.Desc → Digest) (mark : s.Obj → Digest) (frozen : n.State → Digest) (p : Plan)
    (h : List (Event s.Desc)) where
  abbrev real : Job s.Desc
  real = the job around name mark frozen

  abbrev now : Standing s.Desc
  now = standing real h

  -- each task started is needed
  abbrev pub StartsAreNeeded : Type 0
  StartsAreNeeded =
      (k w : ℕ) (u : Task s.Desc) (from : ℕ) → In (start k w u from) h → n.Needed job around (back u)

  -- where the job means an answer, there are no more Starts than its work, once for each loss and once more
  abbrev pub StartsAreFew : Type 0
  StartsAreFew =
      (a : s.Answered) → s.Means job around a → (m : ℕ) × n.Work job around m × (starts_of real h ≤ (losses_of real h + 1) * m)

  -- where the root task is done, the job means an answer
  abbrev pub EndsInAnswer : Type 0
  EndsInAnswer = now.over ≡ true → (a : s.Answered) × s.Means job around a

  -- a circle of waits means that it has none
  abbrev pub CirclesNever : Type 0
  CirclesNever = (ds : List s.Desc) → CircleAtRest real now ds → s.Never job around

  -- where nothing is open, the list of ready tasks isn't empty or there is a circle
  abbrev pub ListedOrCircle : Type 0
  ListedOrCircle =
      now.orders ≡ [] → (us : List (Task s.Desc)) → IsReadyList real now us → ((u : Task s.Desc) × In u us)
      ⊎ ((ds : List s.Desc) × CircleAtRest real now ds)

  -- a ready task may be started at an idle worker
  abbrev pub ReadyStarts : Type 0
  ReadyStarts =
      1 ≤ p.limit → now.over ≡ false → (u : Task s.Desc) → Ready real now u → (w : ℕ) → In w (idle real p now)
      → Lawful real p (h ++ start now.starts w u (last real now u) ∷ [])

  -- what is made is in the book, and has the mark of the object as which it is seen
  abbrev pub MadeIsSeen : Type 0
  MadeIsSeen =
      (k : ℕ) (made : List (s.Desc × Digest)) (copied spawned : List s.Desc) (d : s.Desc) (m : Digest)
      → In (done k made copied spawned) h → In (d, m) made
      → In d now.book × ((o : s.Obj) × SeenAs job around d o × (m ≡ mark o))

  -- what is saved is how the task of its Start stands
  abbrev pub SavedStands : Type 0
  SavedStands =
      (k w : ℕ) (u : Task s.Desc) (from : ℕ) → In (start k w u from) h
      → (j : ℕ) (m : Digest) (refs holds spawned : List s.Desc) → In (saved k j m refs holds spawned) h
      → SavedAs job around frozen (back u) j m refs holds

  -- each description of the book is the main call or made by a needed task
  abbrev pub BookIsMade : Type 0
  BookIsMade =
      (d : s.Desc) → In d now.book
      → (d ≡ s.main_call) ⊎ ((u : n.Task) × n.Needed job around u × (k : ℕ) × t.In d (t.made_in (t.acts_of job around k u)))

-- said of every lawful history of the job that a script means, where what is read as data is plain
abbrev pub OfHistories : ((job : s.Job) (around : s.Around) (name : s.Desc → Digest) (mark : s.Obj → Digest) (frozen : n.State → Digest) → Plan
    → List (Event s.Desc) → Type 0) → Type 0
OfHistories P =
    OfReal (λ job around name mark frozen. SoundReads job.script around → PlainReads around
    → (p : Plan) (h : List (Event s.Desc)) → Lawful (the job around name mark frozen) p h → P job around name mark frozen p h)

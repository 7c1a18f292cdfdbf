-- The laws of a run's journal, each said of every job.
use Rattle.std.specs.Prelude.{◌≡◌, ℕ, ◌+◌, ◌*◌, ◌≤◌, List, [], ◌∷◌, ◌++◌, length, true, false, Some, ◌⊎◌, ◌↔◌, map}
use Rattle.ciel_journal.specs.Job.{Digest, Once, Task, show, Job, In, Each, IsJob, IsPrefix, Needed, Never, ObjectOf, StateOf, made_in}
use Rattle.ciel_journal.specs.History.{Event, OpenStart, Plan, Save, after, done, entered, find_open, order_of, last, needs, learned, live, saved}
use Rattle.ciel_journal.specs.History.{standing, start, Standing}
use Rattle.ciel_journal.specs.Known.{HeadsFirst, Inner, Knows, Whole}
use Rattle.ciel_journal.specs.Lawful.{Allowed, HeldAt, Lawful, NextEnd, NextWait, Step, own_name}
use Rattle.ciel_journal.specs.Live.{Live, LiveAt, LostIn, OpenIn, SavedIn, closes_of, spawned_of}
use Rattle.ciel_journal.specs.Turns.{Reached, Ready, IsReadyList, CircleAtRest, Driven, DrivenFrom, Turn, idle}
use Rattle.ciel_journal.specs.Work.{Work, losses_of, starts_of}
use Rattle.ciel_journal.specs.Entries.{Entry, journal_of, low, low_task}
use Rattle.ciel_journal.specs.Journals.{BookOf, CircleOf, DrivenJournal, LawfulJournal, NameAt, entered_in}

-- d stands in the book, no other description there has its name, and its object has this mark and no other
pub record Publishes {D : Type 0} (job : Job D) (h : List (Event D)) (d : D) (mark : Digest) : Type 0 where
  pub known : In d (standing job h).book
  pub single : (e : D) → In e (standing job h).book → job.name e ≡ job.name d → e ≡ d
  pub seen : ObjectOf job d mark
  pub only : (other : Digest) → ObjectOf job d other → other ≡ mark

-- the last event is the Done of the root task
pub record ShowDone {D : Type 0} (job : Job D) (h : List (Event D)) : Type 0 where
  pub before : List (Event D)
  pub number : ℕ
  pub made : List (D × Digest)
  pub copied : List D
  pub spawned : List D
  pub last : h ≡ before ++ done number made copied spawned ∷ []
  pub order : OpenStart D
  pub is_open : find_open job number (standing job before).orders ≡ Some order
  pub root : order.task ≡ show

-- an event made this open Start, and it says what stood before that
pub record Began {D : Type 0} (job : Job D) (h : List (Event D)) (o : OpenStart D) : Type 0 where
  pub before : List (Event D)
  pub rest : List (Event D)
  pub whole : h ≡ before ++ start o.number o.worker o.task o.from ∷ rest
  pub stood : o ≡ order_of job (standing job before) o.number o.worker o.task o.from

module _ (D : Type 0) where
  -- said of every job with the laws of one
  abbrev OfJob : (Job D → Type 0) → Type 0
  OfJob P = (job : Job D) → IsJob job → P job

  -- of every lawful history, and of what stands after it
  abbrev OfLawful : (Job D → Plan → List (Event D) → Standing D → Type 0) → Type 0
  OfLawful P = OfJob (λ job. (p : Plan) (h : List (Event D)) → Lawful job p h → P job p h (standing job h))

  -- and where the job tells where all comes from
  abbrev OfKnown : (Job D → Inner D → Plan → List (Event D) → Standing D → Type 0) → Type 0
  OfKnown P =
      OfJob (λ job. (inner : Inner D) → Knows job inner → (p : Plan) (h : List (Event D)) → Lawful job p h → P job inner p h (standing job h))

  -- ---- what stands

  -- what is live by what stands after a lawful history is live by its text
  abbrev pub LiveIsTold : Type 0
  LiveIsTold = OfLawful (λ job p h v. (d : D) → (live job v d ≡ true) ↔ Live job h d)

  -- Starts and closes are counted
  abbrev pub CountsAreTold : Type 0
  CountsAreTold =
      OfJob (λ job. (h : List (Event D)) → ((standing job h).starts ≡ starts_of job h) × ((standing job h).closes ≡ closes_of h))

  abbrev IsOrder : Standing D → (k w : ℕ) → Task D → ℕ → Type 0
  IsOrder v k w t from =
      (o : OpenStart D) × In o v.orders × (o.number ≡ k) × (o.worker ≡ w) × (o.task ≡ t) × (o.from ≡ from)

  -- the open Starts are those that no entry has closed and whose worker has no Lost
  abbrev pub OpenIsTold : Type 0
  OpenIsTold =
      OfLawful (λ job p h v. (k w : ℕ) (t : Task D) (from : ℕ) → IsOrder v k w t from ↔ OpenIn h k w t from)

  -- the saved waits are those of the Saved whose worker has no Lost
  abbrev pub SavedIsTold : Type 0
  SavedIsTold =
      OfLawful (λ job p h v. (s : Save D) → In s v.saves ↔ SavedIn h s.worker s.task s.j s.refs s.holds)

  -- each description stands in the book once
  abbrev pub BookIsOnce : Type 0
  BookIsOnce = OfLawful (λ job p h v. Once [] v.book)

  -- the book is the main call, and then all that was spawned, each description at its first place only
  abbrev pub BookIsTold : Type 0
  BookIsTold = OfLawful (λ job p h v. v.book ≡ learned job (job.main ∷ []) (spawned_of h))

  -- what a worker has, by what stands, is what it has by the text
  abbrev pub PlacesAreTold : Type 0
  PlacesAreTold = OfLawful (λ job p h v. (d : D) (w : ℕ) → In w (v.places d) ↔ LiveAt h w d)

  -- the lost workers are those with a Lost
  abbrev pub GoneIsTold : Type 0
  GoneIsTold = (job : Job D) (h : List (Event D)) (w : ℕ) → In w (standing job h).gone ↔ LostIn h w

  -- the root task is done where the history ends with its Done
  abbrev pub OverIsTold : Type 0
  OverIsTold = OfLawful (λ job p h v. (v.over ≡ true) ↔ ShowDone job h)

  -- an open Start says who had what, who was lost, and where its stack was, when it was made
  abbrev pub OpenStood : Type 0
  OpenStood = (job : Job D) (h : List (Event D)) (o : OpenStart D) → In o (standing job h).orders → Began job h o

  -- ---- going on

  -- a lawful history goes on by a lawful event, and a driven one by one whose turn it is
  abbrev pub LawfulGoesOn : Type 0
  LawfulGoesOn =
      OfLawful (λ job p h v. (e : Event D) → Step job p v e → Lawful job p (h ++ e ∷ []))

  abbrev pub DrivenGoesOn : Type 0
  DrivenGoesOn =
      (job : Job D) (p : Plan) (h : List (Event D)) (e : Event D) → Driven job p h → Step job p (standing job h) e
      → Turn job p (standing job h) e → Driven job p (h ++ e ∷ [])

  -- what stands then, and its journal
  abbrev pub StandsOn : Type 0
  StandsOn =
      (job : Job D) (h : List (Event D)) (e : Event D) → (standing job (h ++ e ∷ []) ≡ after job (standing job h) e)
      × (journal_of job (h ++ e ∷ []) ≡ journal_of job h ++ low job e ∷ [])

  -- each part of a driven history is driven from what stands before it
  abbrev pub DrivenInParts : Type 0
  DrivenInParts =
      (job : Job D) (p : Plan) (g h : List (Event D)) → Driven job p (g ++ h) → Driven job p g × DrivenFrom job p (standing job g) h

  -- ---- what is in the book

  -- each description of the book is the main call, or made by a needed task
  abbrev pub BookIsMade : Type 0
  BookIsMade =
      OfLawful (λ job p h v. (d : D) → In d v.book → (d ≡ job.main) ⊎ ((t : Task D) × Needed job t × (n : ℕ) × In d (made_in (job.acts n t))))

  -- what is open is of a needed task, which goes by a name of the book
  abbrev pub OpenIsNeeded : Type 0
  OpenIsNeeded =
      OfLawful (λ job p h v. (o : OpenStart D) → In o v.orders → Needed job o.task × In (own_name job o.task) v.book)

  -- a saved wait is of a needed task, which goes by a name of the book, and has what its state holds there
  abbrev pub SavedIsState : Type 0
  SavedIsState =
      OfLawful (λ job p h v. (s : Save D) → In s v.saves → Needed job s.task × In (own_name job s.task) v.book × (mark : Digest)
      × StateOf job s.task s.j (record { names = s.holds; mark = mark }))

  -- each description of the book stands behind the one that its task goes by, or is that one: an executor's first output
  abbrev pub FirstsComeFirst : Type 0
  FirstsComeFirst = OfKnown (λ job inner p h v. HeadsFirst job [] v.book)

  -- all that stands inside what is in the book is there, and all outputs of its task
  abbrev pub BookIsWhole : Type 0
  BookIsWhole = OfKnown (λ job inner p h v. (d : D) → In d v.book → Whole job inner v.book d)

  -- and what an event adds is so too, where the job and what stands allow it: it needs neither room nor names that differ
  abbrev pub NewIsWhole : Type 0
  NewIsWhole =
      OfKnown (λ job inner p h v. (e : Event D) → Allowed job p v e → (d : D) → In d (after job v e).book → Whole job inner (after job v e).book d)

  -- what a reached task waits for is in the book
  abbrev pub ReachedIsBooked : Type 0
  ReachedIsBooked =
      OfKnown (λ job inner p h v. (t : Task D) → Reached job v t → Each (λ d. In d v.book) (needs job v t))

  -- what some worker has is in the book, and so is all that its object holds
  abbrev pub PlacedIsBooked : Type 0
  PlacedIsBooked =
      OfKnown (λ job inner p h v. (d : D) (w : ℕ) → In w (v.places d) → In d v.book × ((n : ℕ) → Each (λ e. In e v.book) (inner.carries n d)))

  -- what is waited for at a saved wait, and held there
  abbrev pub SavedIsBooked : Type 0
  SavedIsBooked =
      OfKnown (λ job inner p h v. (s : Save D) → In s v.saves → Each (λ d. In d v.book) s.refs × Each (λ d. In d v.book) s.holds)

  -- what the task of an open Start held when it was made
  abbrev pub OpenIsBooked : Type 0
  OpenIsBooked =
      OfKnown (λ job inner p h v. (o : OpenStart D) → In o v.orders → (d : D) → HeldAt job o.task o.from d → In d v.book)

  -- ---- what is started

  -- each task started was needed
  abbrev pub StartedIsNeeded : Type 0
  StartedIsNeeded =
      OfJob (λ job. (p : Plan) (before rest : List (Event D)) (k w : ℕ) (t : Task D) (from : ℕ)
      → Lawful job p (before ++ start k w t from ∷ rest) → Needed job t)

  -- none was started whose outputs were all live; the root task has none
  abbrev pub StartedIsMissing : Type 0
  StartedIsMissing =
      OfJob (λ job. (p : Plan) (before rest : List (Event D)) (k w : ℕ) (t : Task D) (from : ℕ) → Lawful job p (before ++ start k w t from ∷ rest)
      → (t ≡ show) ⊎ ((d : D) × In d (job.outputs t) × (Live job before d → ⊥)))

  -- a lawful history has no more Starts than there is work, once for each loss and once more
  abbrev pub FewStarts : Type 0
  FewStarts =
      OfJob (λ job. (m : ℕ) → Work job m → (p : Plan) (h : List (Event D)) → Lawful job p h → starts_of job h ≤ (losses_of job h + 1) * m)

  -- between two losses: a stretch of a lawful history that has no Lost has no more Starts than there is work
  abbrev pub FewBetween : Type 0
  FewBetween =
      OfJob (λ job. (m : ℕ) → Work job m → (p : Plan) (before stretch rest : List (Event D)) → Lawful job p (before ++ stretch ++ rest)
      → losses_of job stretch ≡ 0 → starts_of job stretch ≤ m)

  -- ---- what can go on

  -- a circle of waits after a lawful history means that the job has no answer
  abbrev pub CircleIsEndless : Type 0
  CircleIsEndless = OfLawful (λ job p h v. (ds : List D) → CircleAtRest job v ds → Never job)

  abbrev SomeReady : Job D → Standing D → Type 0
  SomeReady job v = (t : Task D) × Ready job v t

  abbrev SomeCircle : Job D → Standing D → Type 0
  SomeCircle job v = (ds : List D) × CircleAtRest job v ds

  -- where nothing is open, a task is ready or there is a circle
  abbrev pub ReadyOrCircle : Type 0
  ReadyOrCircle = OfLawful (λ job p h v. v.orders ≡ [] → SomeReady job v ⊎ SomeCircle job v)

  -- where a job tells where all comes from, and nothing is open, the list of ready tasks isn't empty or there is a circle
  abbrev pub ListedOrCircle : Type 0
  ListedOrCircle =
      OfKnown (λ job inner p h v. v.orders ≡ [] → (ts : List (Task D)) → IsReadyList job v ts → ((t : Task D) × In t ts) ⊎ SomeCircle job v)

  -- there, where the root task isn't done, a ready task may be started at an idle worker
  abbrev pub ReadyStarts : Type 0
  ReadyStarts =
      OfKnown (λ job inner p h v. 1 ≤ p.limit → v.over ≡ false → (t : Task D) → Ready job v t → (w : ℕ) → In w (idle job p v)
      → Lawful job p (h ++ start v.starts w t (last job v t) ∷ []))

  -- a task has one next wait for something outside a list, and none where it comes to its end
  pub record OneNext (job : Job D) : Type 0 where
    pub wait : (S : List D) (t : Task D) (from j i : ℕ) (r q : List D) → NextWait job (λ d. In d S) t from j r
        → NextWait job (λ d. In d S) t from i q → (j ≡ i) × (r ≡ q)
    pub end : (S : List D) (t : Task D) (from j : ℕ) (r : List D) → NextEnd job (λ d. In d S) t from → NextWait job (λ d. In d S) t from j r → ⊥

  abbrev pub NextIsOne : Type 0
  NextIsOne = OfJob (λ job. OneNext job)

  -- ---- names and marks

  -- each name made is that of one description of the book, beside the mark of the one object that the job sees for it
  abbrev pub MadeIsSeen : Type 0
  MadeIsSeen =
      OfLawful (λ job p h v. (k : ℕ) (made : List (D × Digest)) (copied spawned : List D) (d : D) (mark : Digest)
      → In (done k made copied spawned) h → In (d, mark) made → Publishes job h d mark)

  -- no name stands with two marks
  abbrev pub OneMark : Type 0
  OneMark =
      OfLawful (λ job p h v. (k l : ℕ) (made more : List (Digest × Digest)) (c e : List Digest) (name a b : Digest)
      → In (Entry.Done k made c) (journal_of job h) → In (Entry.Done l more e) (journal_of job h) → In (name, a) made → In (name, b) more → a ≡ b)

  -- two saved entries of one task and one wait have one mark
  abbrev pub OneState : Type 0
  OneState =
      OfLawful (λ job p h v. (k l w u : ℕ) (t : Task D) (from i : ℕ) → In (start k w t from) h → In (start l u t i) h
      → (j : ℕ) (a b : Digest) (r x s q y z : List D) → In (saved k j a r x s) h → In (saved l j b q y z) h → a ≡ b)

  -- the journal of names determines the history
  abbrev pub NamesDetermine : Type 0
  NamesDetermine =
      OfJob (λ job. (p q : Plan) (g h : List (Event D)) → Lawful job p g → Lawful job q h → journal_of job g ≡ journal_of job h → g ≡ h)

  -- ---- journals by themselves

  -- the journal of a driven history is that of a lawful one
  abbrev pub DrivenIsLawful : Type 0
  DrivenIsLawful = OfJob (λ job. (p : Plan) (J : List Entry) → DrivenJournal job p J → LawfulJournal job p J)

  -- one book stands behind a journal
  abbrev pub OneBook : Type 0
  OneBook = OfJob (λ job. (p : Plan) (J : List Entry) (a b : List D) → BookOf job p J a → BookOf job p J b → a ≡ b)

  -- a circle of names means that the job has no answer
  abbrev pub NamedCircleIsEndless : Type 0
  NamedCircleIsEndless = OfJob (λ job. (p : Plan) (J : List Entry) (names : List Digest) → CircleOf job p J names → Never job)

  -- the tasks that a worker was given are those that its entries say, by name
  abbrev pub EnteredAlike : Type 0
  EnteredAlike =
      (job : Job D) (w : ℕ) (h : List (Event D)) → entered_in w (journal_of job h) ≡ map (low_task job) (entered job w h)

  -- a worker has what is in the book where the entries say that it has the object of this name
  abbrev pub PlacedAlike : Type 0
  PlacedAlike =
      OfLawful (λ job p h v. (d : D) → In d v.book → (w : ℕ) → In w (v.places d) ↔ NameAt (journal_of job h) w (job.name d))

  -- ---- one worker

  abbrev OfAlone : (Job D → List (Event D) → List (Event D) → Type 0) → Type 0
  OfAlone P =
      OfJob (λ job. (p : Plan) → p.workers ≡ 1 → (g h : List (Event D)) → Driven job p g → Driven job p h → P job g h)

  -- of two driven histories with one worker the shorter begins the longer
  abbrev pub OneWorker : Type 0
  OneWorker = OfAlone (λ job g h. length g ≤ length h → IsPrefix g h)

  -- and two whole runs are one
  abbrev pub OneWhole : Type 0
  OneWhole = OfAlone (λ job g h. (standing job g).over ≡ true → (standing job h).over ≡ true → g ≡ h)

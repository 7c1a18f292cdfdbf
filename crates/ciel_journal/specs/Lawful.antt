-- Which histories are lawful: what is asked of each event, where this stands before it.
use Rattle.std.specs.Prelude.{◌≡◌, ℕ, ◌-◌, ◌≤◌, ◌<◌, List, [], ◌∷◌, length, true, false, cond, Option, Some, None, nat_eq, nat_lt, slice_get, ◌⊎◌}
use Rattle.std.specs.List.{list_any, IsDistinct}
use Rattle.ciel_journal.specs.Job.{Digest, Task, show, of, Held, Job, In, Each, WaitOf, Ends, Needed, ObjectOf, StateOf, waits_in, after_wait}
use Rattle.ciel_journal.specs.Job.{made_before, made_in}
use Rattle.ciel_journal.specs.History.{Event, start, done, saved, missed, lost, OpenStart, Standing, Plan, live_in, live, last, is_out, find_open}
use Rattle.ciel_journal.specs.History.{after, before_all}

module _ {D : Type 0} (job : Job D) where
  -- ---- what the job says of what is done from a Start on

  abbrev pub HeldAt : Task D → ℕ → D → Type 0
  HeldAt t j d = (n : ℕ) × (a : Held D) × (job.at n t j ≡ Some a) × In d a.names

  -- what the order brings along: what the state holds and was live at the Start
  abbrev pub Given : OpenStart D → D → Type 0
  Given o d = HeldAt o.task o.from d × (live_in job o.had d ≡ true)

  module _ (S : D → Type 0) (t : Task D) (from : ℕ) where
    -- the least wait of a task after this one for something outside S
    pub record NextWait (i : ℕ) (ds : List D) : Type 0 where
      pub later : from < i
      pub waits : WaitOf job t i ds
      pub unmet : (d : D) × In d ds × (S d → ⊥)
      pub met : (k : ℕ) (es : List D) → from < k → k < i → WaitOf job t k es → Each S es

    -- there is no such wait, and the task comes to its end
    pub record NextEnd : Type 0 where
      pub ends : Ends job t
      pub met : (k : ℕ) (es : List D) → from < k → WaitOf job t k es → Each S es

  -- what the task makes after the order's wait and before its wait i
  abbrev pub SpawnedTo : OpenStart D → ℕ → List D → Type 0
  SpawnedTo o i ds =
      (n : ℕ) × (i ≤ length (waits_in (job.acts n o.task))) × (ds ≡ made_before (i - o.from) (after_wait o.from (job.acts n o.task)))

  -- what the task makes after the order's wait and before its end
  abbrev pub SpawnedToEnd : OpenStart D → List D → Type 0
  SpawnedToEnd o ds =
      (n : ℕ) × (job.ended n o.task ≡ true) × (ds ≡ made_in (after_wait o.from (job.acts n o.task)))

  -- these outputs in order, each with the mark of its object
  abbrev pub Marked : List D → List (D × Digest) → Type 0
  Marked [] [] = Unit {0}
  Marked [] (m ∷ ms) = ⊥
  Marked (d ∷ ds) [] = ⊥
  Marked (d ∷ ds) (m ∷ ms) = (m.0 ≡ d) × ObjectOf job d m.1 × Marked ds ms

  abbrev pub least_with : ℕ → Option ℕ → Option ℕ
  least_with w None = Some w
  least_with w (Some u) = cond (nat_lt u w) (Some u) (Some w)

  abbrev pub least : List ℕ → Option ℕ
  least [] = None
  least (w ∷ ws) = least_with w (least ws)

  -- at the Start that worker had it, no lesser one had it, and the order's own didn't
  abbrev pub FetchedFrom : OpenStart D → D → ℕ → Type 0
  FetchedFrom o d w = (least (o.had d) ≡ Some w) × (list_any (nat_eq o.worker) (o.had d) ≡ false)

  -- the description that stands for a task in the journal where its saved stack is missed
  abbrev pub own_name : Task D → D
  own_name show = job.main
  own_name (of d) = d

  -- no two of them share a name
  abbrev pub NoClash : List D → Type 0
  NoClash ds = (a b : D) → In a ds → In b ds → job.name a ≡ job.name b → a ≡ b

  -- ---- what is asked of each event

  pub record StartAllowed (p : Plan) (v : Standing D) (k w : ℕ) (t : Task D) (from : ℕ) : Type 0 where
    pub number : k ≡ v.starts
    pub worker : w < p.workers
    pub here : list_any (nat_eq w) v.gone ≡ false
    pub idle : list_any (λ (o : OpenStart D). nat_eq w o.worker) v.orders ≡ false
    pub needed : Needed job t
    pub not_out : is_out job v t ≡ false
    pub known : Each (λ d. list_any (job.same d) v.book ≡ true) (job.outputs t)
    pub some_missing : (t ≡ show) ⊎ ((d : D) × In d (job.outputs t) × (live job v d ≡ false))
    pub from_last : from ≡ last job v t
    pub met : (ds : List D) → WaitOf job t from ds → Each (λ d. live job v d ≡ true) ds

  -- a copy: what the task waits for at its `from` or later, and what was live at another worker alone at the Start
  abbrev pub Copied : OpenStart D → D → Type 0
  Copied o d =
      ((j : ℕ) × (ds : List D) × (o.from ≤ j) × WaitOf job o.task j ds × In d ds) × ((w : ℕ) × FetchedFrom o d w)

  pub record DoneAllowed (o : OpenStart D) (made : List (D × Digest)) (copied spawned : List D) : Type 0 where
    pub next : NextEnd (Given o) o.task o.from
    pub marked : Marked (job.outputs o.task) made
    pub distinct : IsDistinct job.same copied
    pub fetched : Each (Copied o) copied
    pub spawns : SpawnedToEnd o spawned

  pub record SavedAllowed (o : OpenStart D) (j : ℕ) (mark : Digest) (refs holds spawned : List D) : Type 0 where
    pub next : NextWait (Given o) o.task o.from j refs
    pub frozen : StateOf job o.task j (record { names = holds; mark = mark })
    pub spawns : SpawnedTo o j spawned

  pub record MissedAllowed (p : Plan) (v : Standing D) (o : OpenStart D) (d : D) (loss : ℕ) : Type 0 where
    pub worker : ℕ
    pub planned : (count : ℕ) × (slice_get p.losses loss ≡ Some (count, worker))
    -- lost after the Start
    pub since : list_any (nat_eq worker) v.gone ≡ true
    pub not_before : list_any (nat_eq worker) o.gone ≡ false
    -- an object that was to be fetched from there, or the saved stack
    pub reason : (HeldAt o.task o.from d × FetchedFrom o d worker) ⊎ ((d ≡ own_name o.task) × (o.stack ≡ Some worker))

  pub record LostAllowed (p : Plan) (v : Standing D) (w closes : ℕ) : Type 0 where
    pub first : list_any (nat_eq w) v.gone ≡ false
    pub now : closes ≡ v.closes
    pub planned : (loss count : ℕ) × (slice_get p.losses loss ≡ Some (count, w)) × (count ≤ closes)

  abbrev pub Allowed : Plan → Standing D → Event D → Type 0
  Allowed p v (start k w t from) = StartAllowed p v k w t from
  Allowed p v (done k made copied spawned) =
      (o : OpenStart D) × (find_open job k v.orders ≡ Some o) × DoneAllowed o made copied spawned
  Allowed p v (saved k j mark refs holds spawned) =
      (o : OpenStart D) × (find_open job k v.orders ≡ Some o) × SavedAllowed o j mark refs holds spawned
  Allowed p v (missed k d loss) = (o : OpenStart D) × (find_open job k v.orders ≡ Some o) × MissedAllowed p v o d loss
  Allowed p v (lost w closes) = LostAllowed p v w closes

  pub record Step (p : Plan) (v : Standing D) (e : Event D) : Type 0 where
    -- the root task isn't done
    pub going : v.over ≡ false
    pub allowed : Allowed p v e
    pub room : length (after job v e).book ≤ p.limit
    pub apart : NoClash (after job v e).book

  -- from what stands, these events are lawful, one after another
  abbrev pub LawfulFrom : Plan → Standing D → List (Event D) → Type 0
  LawfulFrom p v [] = Unit {0}
  LawfulFrom p v (e ∷ es) = Step p v e × LawfulFrom p (after job v e) es

  -- a lawful history
  abbrev pub Lawful : Plan → List (Event D) → Type 0
  Lawful p h = LawfulFrom p (before_all job) h

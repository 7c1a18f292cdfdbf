-- What a report of a task's run says of the job. A report speaks of names and of descriptions by names; the job of
-- descriptions.
use Rattle.std.specs.Prelude.{◌≡◌, ◌≢◌, ℕ, ◌≤◌, List, [], ◌∷◌, ◌++◌, Option, Some, None, ◌⊎◌, length, map}
use Rattle.std.specs.List.{IsDistinct}
use Rattle.ciel_journal.specs.Job.{Digest, Held, Job, In, Each, StateOf, waits_in, made_before}
use Rattle.ciel_journal.specs.History.{Event, start, done, saved, missed, lost, OpenStart}
use Rattle.ciel_journal.specs.Lawful.{Copied, Given, HeldAt, Marked, NextEnd, NextWait, SpawnedTo, SpawnedToEnd}
use Rattle.ciel_journal.specs.Entries.{low_made, low_names}
use Rattle.ciel_journal.specs.Known.{Inner}

-- how the run ended: with objects, of the root task with none; with a saved stack; or where an object, or the saved stack,
-- was missing
pub data End : Type 0 where
  made : (objects : List (Digest × Digest)) → (copied : List Digest) → End
  stopped : (j : ℕ) → (mark : Digest) → (refs holds : List Digest) → End
  missing : (name : Digest) → (loss : ℕ) → End

abbrev pub IsMissing : End → Type 0
IsMissing (missing name loss) = Unit {0}
IsMissing (made objects copied) = ⊥
IsMissing (stopped j mark refs holds) = ⊥

-- the number of its Start, what the task made since, each by names, and the end
pub record Report (B : Type 0) : Type 0 where
  pub number : ℕ
  pub spawned : List B
  pub end : End

-- none of these has its name
abbrev pub IsNew : {B : Type 0} → (B → Digest) → List B → B → Type 0
IsNew named rows b = (c : _) → In c rows → named c ≢ named b

module _ {D : Type 0} (job : Job D) (inner : Inner D) where
  -- what the task of an order holds at the order's wait, and what the objects hold that the order brings along
  pub data First (o : OpenStart D) (d : D) : Type 0 where
    held_then : HeldAt job o.task o.from d → First o d
    brought : (e : D) (n : ℕ) → Given job o e → In d (inner.carries n e) → First o d

  -- no two of these share a name
  abbrev pub FirstApart : OpenStart D → Type 0
  FirstApart o = (d e : D) → First o d → First o e → job.name d ≡ job.name e → d ≡ e

module _ {D B : Type 0} (job : Job D) (inner : Inner D) (lower : D → B) where
  -- what the task of an order met before it went on: what it had made, and those
  pub data Met (o : OpenStart D) (d : D) : Type 0 where
    made_then : (n : ℕ) → o.from ≤ length (waits_in (job.acts n o.task)) → In d (made_before o.from (job.acts n o.task)) → Met o d
    at_first : First job inner o d → Met o d

  -- one of those that were met is another one of the same name
  abbrev pub ClashAmong : (D → Type 0) → D → Type 0
  ClashAmong met d = (e : D) × met e × (job.name e ≡ job.name d) × (e ≢ d)

  abbrev pub Or : (D → Type 0) → D → D → Type 0
  Or met d e = (e ≡ d) ⊎ met e

  -- the report has what is made, up to the first clash and with it; where there is none, all of it and no more
  abbrev pub Tells : (D → Type 0) → List D → List B → Type 0
  Tells met [] bs = bs ≡ []
  Tells met (d ∷ ds) bs =
      (rest : List B) × (bs ≡ lower d ∷ rest) × ((ClashAmong met d → ⊥) → Tells (Or met d) ds rest)

  -- nothing that is made clashes with what was met or made before
  abbrev pub Clear : (D → Type 0) → List D → Type 0
  Clear met [] = Unit {0}
  Clear met (d ∷ ds) = (ClashAmong met d → ⊥) × Clear (Or met d) ds

  -- at the end of the task: its outputs in order with the marks of their objects, and copies of what was waited for
  abbrev pub MadeIs : OpenStart D → End → Type 0
  MadeIs o (made objects names) =
      (outputs : List (D × Digest)) × (copied : List D)
      × Marked job (job.outputs o.task) outputs × Each (Copied job o) copied × IsDistinct job.same copied
      × (objects ≡ low_made job outputs) × (names ≡ low_names job copied)
  MadeIs o (stopped j mark refs holds) = ⊥
  MadeIs o (missing name loss) = Unit {0}

  -- at this wait: the state there, and what is waited for
  abbrev pub StoppedIs : OpenStart D → ℕ → List D → End → Type 0
  StoppedIs o i ds (made objects names) = ⊥
  StoppedIs o i ds (stopped j mark refs holds) =
      (j ≡ i) × ((a : Held D) × StateOf job o.task i a × (mark ≡ a.mark) × (holds ≡ low_names job a.names)) × (refs ≡ low_names job ds)
  StoppedIs o i ds (missing name loss) = Unit {0}

  abbrev pub Spawns : OpenStart D → List D → List B → End → Type 0
  Spawns o ds bs (missing name loss) = bs ≡ []
  Spawns o ds bs (made objects names) = Tells (Met o) ds bs
  Spawns o ds bs (stopped j mark refs holds) = Tells (Met o) ds bs

  -- the report of a run of this order: from the order's wait the task comes to its end, or to its next wait for something
  -- that the order doesn't bring along
  pub data Says (o : OpenStart D) (r : Report B) : Type 0 where
    at_end : (ds : List D) → NextEnd job (Given job o) o.task o.from → SpawnedToEnd job o ds → Spawns o ds r.spawned r.end
        → (Clear (Met o) ds → MadeIs o r.end) → Says o r
    at_wait : (i : ℕ) (refs ds : List D) → NextWait job (Given job o) o.task o.from i refs → SpawnedTo job o i ds → Spawns o ds r.spawned r.end
        → (Clear (Met o) ds → StoppedIs o i refs r.end) → Says o r

  -- the report that tells an event
  abbrev pub report_of : Event D → Option (Report B)
  report_of (start k w t from) = None
  report_of (done k objects copied spawned) =
      Some (record { number = k; spawned = map lower spawned; end = made (low_made job objects) (low_names job copied) })
  report_of (saved k j mark refs holds spawned) =
      Some (record { number = k; spawned = map lower spawned; end = stopped j mark (low_names job refs) (low_names job holds) })
  report_of (missed k d loss) = Some (record { number = k; spawned = []; end = missing (job.name d) loss })
  report_of (lost w closes) = None

-- a description by names tells its own name and the names of what stands inside, and with what stands inside it tells the
-- description
pub record Exact {D B : Type 0} (job : Job D) (inner : Inner D) (lower : D → B) (named : B → Digest) : Type 0 where
  pub own : (d : D) → named (lower d) ≡ job.name d
  pub within : (d e : D) → lower d ≡ lower e → low_names job (inner.inside d) ≡ low_names job (inner.inside e)
  pub only : (d e : D) → lower d ≡ lower e → inner.inside d ≡ inner.inside e → d ≡ e

-- what a table by names learns of these, in order: one that stands there already stays where it is, one of a new name is
-- put at the end, and none has the name of another one
abbrev pub Learns : {B : Type 0} → (B → Digest) → List B → List B → List B → Type 0
Learns named rows [] new = new ≡ rows
Learns named rows (b ∷ bs) new =
    (In b rows × Learns named rows bs new) ⊎ (IsNew named rows b × Learns named (rows ++ b ∷ []) bs new)

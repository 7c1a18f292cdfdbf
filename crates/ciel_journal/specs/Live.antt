-- Where an object is live, said of the whole history at once.
use Rattle.std.specs.Prelude.{◌≡◌, ℕ, suc, List, [], ◌∷◌, ◌++◌, Option, Some, None, ◌⊎◌}
use Rattle.ciel_journal.specs.Job.{Digest, Task, Job, In}
use Rattle.ciel_journal.specs.History.{Event, done, lost, missed, names_of, saved, start}

module _ {D : Type 0} where
  -- a Start at w has a Done with d among what was made or copied
  pub record Published (h : List (Event D)) (w : ℕ) (d : D) : Type 0 where
    pub number : ℕ
    pub task : Task D
    pub from : ℕ
    pub begun : In (start number w task from) h
    pub made : List (D × Digest)
    pub copied : List D
    pub spawned : List D
    pub ended : In (done number made copied spawned) h
    pub has : In d (names_of made) ⊎ In d copied

  abbrev pub LostIn : List (Event D) → ℕ → Type 0
  LostIn h w = (c : ℕ) × In (lost w c) h

  -- d is live at w
  abbrev pub LiveAt : List (Event D) → ℕ → D → Type 0
  LiveAt h w d = Published h w d × (LostIn h w → ⊥)

module _ {D : Type 0} (job : Job D) where
  -- an input, or what is live at some worker
  abbrev pub Live : List (Event D) → D → Type 0
  Live h d = (job.task_of d ≡ None) ⊎ ((w : ℕ) × LiveAt h w d)

module _ {D : Type 0} where
  -- how many entries close a Start
  abbrev pub closes_of : List (Event D) → ℕ
  closes_of [] = 0
  closes_of (start k w t from ∷ es) = closes_of es
  closes_of (done k made copied spawned ∷ es) = suc (closes_of es)
  closes_of (saved k j mark refs holds spawned ∷ es) = suc (closes_of es)
  closes_of (missed k d loss ∷ es) = suc (closes_of es)
  closes_of (lost w after ∷ es) = closes_of es

  -- all that was spawned, in order
  abbrev pub spawned_of : List (Event D) → List D
  spawned_of [] = []
  spawned_of (start k w t from ∷ es) = spawned_of es
  spawned_of (done k made copied spawned ∷ es) = spawned ++ spawned_of es
  spawned_of (saved k j mark refs holds spawned ∷ es) = spawned ++ spawned_of es
  spawned_of (missed k d loss ∷ es) = spawned_of es
  spawned_of (lost w after ∷ es) = spawned_of es

  -- the number of the Start that an entry closes
  abbrev pub closer : Event D → Option ℕ
  closer (start k w t from) = None
  closer (done k made copied spawned) = Some k
  closer (saved k j mark refs holds spawned) = Some k
  closer (missed k d loss) = Some k
  closer (lost w after) = None

  abbrev pub ClosedIn : List (Event D) → ℕ → Type 0
  ClosedIn h k = (e : Event D) × In e h × (closer e ≡ Some k)

  -- the Start of this number is open: no entry has closed it, and its worker has no Lost
  pub record OpenIn (h : List (Event D)) (k w : ℕ) (t : Task D) (from : ℕ) : Type 0 where
    pub begun : In (start k w t from) h
    pub unclosed : ClosedIn h k → ⊥
    pub here : LostIn h w → ⊥

  -- a Start of t at w was closed by this Saved, and w has no Lost
  pub record SavedIn (h : List (Event D)) (w : ℕ) (t : Task D) (j : ℕ) (refs holds : List D) : Type 0 where
    pub number : ℕ
    pub from : ℕ
    pub mark : Digest
    pub spawned : List D
    pub begun : In (start number w t from) h
    pub ended : In (saved number j mark refs holds spawned) h
    pub here : LostIn h w → ⊥

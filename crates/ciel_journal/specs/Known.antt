-- What a task waits for and holds comes from somewhere: from what it began with, from the objects that it saw, or from what
-- it made. A job that tells this has all of it in the book.
use Rattle.std.specs.Prelude.{◌≡◌, ℕ, ◌≤◌, ◌<◌, List, [], ◌∷◌, ◌++◌, length, true, Some, None, ◌⊎◌}
use Rattle.ciel_journal.specs.Job.{Task, show, of, Act, made, wait, Held, Job, In, Each, WaitOf, StateOf, waits_in, made_before, made_in}

-- the descriptions that stand inside a description, and those that its object holds
pub record Inner (D : Type 0) : Type 0 where
  pub inside : D → List D
  pub carries : ℕ → D → List D

module _ {D : Type 0} (job : Job D) where
  -- what is made at once: an input, or all outputs of a task, of which it goes by the first
  abbrev pub IsBatch : D → List D → Type 0
  IsBatch d ds =
      ((job.task_of d ≡ None) × (ds ≡ [])) ⊎ ((job.task_of d ≡ Some (of d)) × (job.outputs (of d) ≡ d ∷ ds))

  -- first the rest of a batch, then what is made in batches, with no wait inside one
  abbrev pub Batched : List D → List (Act D) → Type 0
  Batched [] [] = Unit {0}
  Batched (x ∷ xs) [] = ⊥
  Batched [] (made d ∷ rest) = (xs : List D) × IsBatch d xs × Batched xs rest
  Batched (x ∷ xs) (made d ∷ rest) = (d ≡ x) × Batched xs rest
  Batched [] (wait ds ∷ rest) = Batched [] rest
  Batched (x ∷ xs) (wait ds ∷ rest) = ⊥

  -- behind these, each stands behind the description that its task goes by, or is that one
  abbrev pub HeadsFirst : List D → List D → Type 0
  HeadsFirst seen [] = Unit {0}
  HeadsFirst seen (d ∷ ds) =
      ((e : D) → job.task_of d ≡ Some (of e) → In e (d ∷ seen)) × HeadsFirst (d ∷ seen) ds

module _ {D : Type 0} (job : Job D) (inner : Inner D) where
  -- S has what a task begins with: what stands inside its description, for the root task the main call
  abbrev pub Begins : List D → Task D → Type 0
  Begins S show = In job.main S
  Begins S (of d) = Each (λ e. In e S) (inner.inside d)

  -- S has what a task was handed before its wait i: what it begins with, and what the objects hold that it waited for
  pub record HandedTo (S : List D) (t : Task D) (i : ℕ) : Type 0 where
    pub begins : Begins S t
    pub reads : (k : ℕ) (ds : List D) (d e : D) (n : ℕ) → k < i → WaitOf job t k ds → In d ds → In e (inner.carries n d) → In e S

  -- and before its end
  pub record HandedToEnd (S : List D) (t : Task D) : Type 0 where
    pub begins : Begins S t
    pub reads : (k : ℕ) (ds : List D) (d e : D) (n : ℕ) → WaitOf job t k ds → In d ds → In e (inner.carries n d) → In e S

  -- besides, what it made
  pub record TellsTo (S : List D) (t : Task D) (i : ℕ) : Type 0 where
    pub handed : HandedTo S t i
    pub makes : (n : ℕ) → i ≤ length (waits_in (job.acts n t)) → Each (λ d. In d S) (made_before i (job.acts n t))

  pub record TellsToEnd (S : List D) (t : Task D) : Type 0 where
    pub handed : HandedToEnd S t
    pub makes : (n : ℕ) → job.ended n t ≡ true → Each (λ d. In d S) (made_in (job.acts n t))

  -- S has what stands inside d
  abbrev pub Around : List D → D → Type 0
  Around S d = Each (λ e. In e S) (inner.inside d)

  -- and all outputs of its task
  abbrev pub Whole : List D → D → Type 0
  Whole S d = Around S d × ((t : Task D) → job.task_of d ≡ Some t → Each (λ e. In e S) (job.outputs t))

  pub record Knows : Type 0 where
    -- the main call has nothing inside, and is the one output of its task, which goes by it
    pub main_inside : inner.inside job.main ≡ []
    pub main_outputs : (t : Task D) → job.task_of job.main ≡ Some t → job.outputs t ≡ job.main ∷ []
    pub main_own : (e : D) → job.task_of job.main ≡ Some (of e) → e ≡ job.main
    -- an input is bytes
    pub input_carries : (d : D) (n : ℕ) → job.task_of d ≡ None → inner.carries n d ≡ []
    -- what is made is made in batches
    pub batches : (n : ℕ) (t : Task D) → Batched job [] (job.acts n t)
    -- what a task waits for and holds at a wait, what it makes by what it made before, and what its outputs' objects hold
    pub waits_told : (S : List D) (t : Task D) (i : ℕ) (ds : List D) → TellsTo S t i → WaitOf job t i ds → Each (λ d. In d S) ds
    pub holds_told : (S : List D) (t : Task D) (i : ℕ) (ds : List D) (a : Held D) → TellsTo S t i → WaitOf job t i ds → StateOf job t i a
        → Each (λ d. In d S) a.names
    pub made_told : (S : List D) (t : Task D) (i n : ℕ) (before after : List D) (d : D) → HandedTo S t i → made_before i (job.acts n t) ≡ before
        ++ d ∷ after → Each (λ e. In e S) before → Around S d
    pub end_told : (S : List D) (t : Task D) (n : ℕ) (before after : List D) (d : D) → HandedToEnd S t → made_in (job.acts n t) ≡ before ++ d
        ∷ after → Each (λ e. In e S) before → Around S d
    pub object_told : (S : List D) (t : Task D) (n : ℕ) (d : D) → TellsToEnd S t → In d (job.outputs t) → Each (λ e. In e S) (inner.carries n d)

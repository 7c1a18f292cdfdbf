-- An abstract job: what its tasks make, wait for and come to, as far as so much fuel tells.
use Rattle.std.specs.Prelude.{◌≡◌, ◌≢◌, ℕ, zero, suc, ◌<◌, List, [], ◌∷◌, ◌++◌, Bool, true, false, Option, Some, None, slice_get, ◌⊎◌}

-- a name or a mark
abbrev pub Digest : Type 0
Digest = List ℕ

-- the root task, or the task that makes a description: a call, or output 0 of an executor's task
pub data Task (D : Type 0) : Type 0 where
  show : Task D
  of : D → Task D

-- what a task does, in order
pub data Act (D : Type 0) : Type 0 where
  made : D → Act D
  wait : List D → Act D

-- the state of a task at a wait: the descriptions that it holds, and the mark of its frozen bytes
pub record Held (D : Type 0) : Type 0 where
  pub names : List D
  pub mark : Digest

pub record Job (D : Type 0) : Type 0 where
  -- whether two descriptions are equal
  pub same : D → D → Bool
  pub name : D → Digest
  -- the main call
  pub main : D
  -- the task that makes a description; none makes an input
  pub task_of : D → Option (Task D)
  pub outputs : Task D → List D
  -- what a task waits for before it starts: its wait 0
  pub first : Task D → List D
  -- with so much fuel: what a task does after its start, and whether it comes to its end
  pub acts : ℕ → Task D → List (Act D)
  pub ended : ℕ → Task D → Bool
  -- the state at a wait, at 0 the one at the start
  pub at : ℕ → Task D → ℕ → Option (Held D)
  -- the mark of the object of a description, where that is seen
  pub object : ℕ → D → Option Digest

-- the first begins the second
abbrev pub IsPrefix : {A : Type 0} → List A → List A → Type 0
IsPrefix {A} xs ys = (rest : List A) × (xs ++ rest ≡ ys)

module _ {D : Type 0} where
  abbrev pub In : D → List D → Type 0
  In d [] = ⊥
  In d (e ∷ es) = (d ≡ e) ⊎ In d es

  abbrev pub Each : (D → Type 0) → List D → Type 0
  Each P [] = Unit {0}
  Each P (d ∷ ds) = P d × Each P ds

  -- each stands once, and none of those before
  abbrev pub Once : List D → List D → Type 0
  Once past [] = Unit {0}
  Once past (d ∷ ds) = (In d past → ⊥) × Once (d ∷ past) ds

  -- the waits, in order
  abbrev pub waits_in : List (Act D) → List (List D)
  waits_in [] = []
  waits_in (made d ∷ rest) = waits_in rest
  waits_in (wait ds ∷ rest) = ds ∷ waits_in rest

  -- what is done after the wait of this number, from 1; at 0, all
  abbrev pub after_wait : ℕ → List (Act D) → List (Act D)
  after_wait zero done = done
  after_wait (suc j) [] = []
  after_wait (suc j) (made d ∷ rest) = after_wait (suc j) rest
  after_wait (suc j) (wait ds ∷ rest) = after_wait j rest

  -- what is made before the wait of this number, from 1
  abbrev pub made_before : ℕ → List (Act D) → List D
  made_before zero done = []
  made_before (suc j) [] = []
  made_before (suc j) (made d ∷ rest) = d ∷ made_before (suc j) rest
  made_before (suc j) (wait ds ∷ rest) = made_before j rest

  -- all that is made
  abbrev pub made_in : List (Act D) → List D
  made_in [] = []
  made_in (made d ∷ rest) = d ∷ made_in rest
  made_in (wait ds ∷ rest) = made_in rest

module _ {D : Type 0} (job : Job D) where
  -- what a task waits for at its j-th wait; the first one after its start has number 1
  abbrev pub WaitOf : Task D → ℕ → List D → Type 0
  WaitOf t zero ds = ds ≡ job.first t
  WaitOf t (suc j) ds = (n : ℕ) × (slice_get (waits_in (job.acts n t)) j ≡ Some ds)

  abbrev pub Ends : Task D → Type 0
  Ends t = (n : ℕ) × (job.ended n t ≡ true)

  -- the job means no answer
  abbrev pub Never : Type 0
  Never = (n : ℕ) → job.ended n show ≡ false

  -- the root task, and each task that makes what a needed task waits for
  pub data Needed : Task D → Type 0 where
    root : Needed show
    waited : {t u : Task D} → Needed t → (j : ℕ) (ds : List D) (d : D) → WaitOf t j ds → In d ds → job.task_of d ≡ Some u → Needed u

  -- the object of d is seen, with this mark
  abbrev pub ObjectOf : D → Digest → Type 0
  ObjectOf d mark = (n : ℕ) × (job.object n d ≡ Some mark)

  abbrev pub StateOf : Task D → ℕ → Held D → Type 0
  StateOf t j a = (n : ℕ) × (job.at n t j ≡ Some a)

  -- the laws that a job's meaning gives: nothing else is used of it
  pub record IsJob : Type 0 where
    pub same_refl : (d : D) → job.same d d ≡ true
    pub same_exact : (d e : D) → job.same d e ≡ true → d ≡ e
    pub first_show : job.first show ≡ job.main ∷ []
    pub outputs_show : job.outputs show ≡ []
    -- a description stands among the outputs of its task, and of no other
    pub made_by : (d : D) (t : Task D) → job.task_of d ≡ Some t → In d (job.outputs t)
    pub makes : (d : D) (t : Task D) → In d (job.outputs t) → job.task_of d ≡ Some t
    -- the description that a task goes by is one of its outputs
    pub own : (d e : D) → job.task_of e ≡ Some (of d) → job.task_of d ≡ Some (of d)
    -- what a task waits for at first is smaller than what it makes
    pub size : D → ℕ
    pub first_smaller : (d e : D) (t : Task D) → job.task_of d ≡ Some t → In e (job.first t) → (t ≡ show → ⊥) → size e < size d
    -- more fuel does no less, and the same where a task has ended
    pub more : (n : ℕ) (t : Task D) → IsPrefix (job.acts n t) (job.acts (suc n) t)
    pub kept : (n : ℕ) (t : Task D) → job.ended n t ≡ true → (job.acts (suc n) t ≡ job.acts n t) × (job.ended (suc n) t ≡ true)
    -- a state, and an object that is seen, stay the same
    pub held_kept : (n : ℕ) (t : Task D) (j : ℕ) (a : Held D) → job.at n t j ≡ Some a → job.at (suc n) t j ≡ Some a
    pub object_kept : (n : ℕ) (d : D) (mark : Digest) → job.object n d ≡ Some mark → job.object (suc n) d ≡ Some mark
    -- where a task has ended, each description that it waited for is seen
    pub first_seen : (n : ℕ) (t : Task D) → job.ended n t ≡ true → Each (λ d. job.object n d ≢ None) (job.first t)
    pub later_seen : (n : ℕ) (t : Task D) (j : ℕ) (ds : List D) → job.ended n t ≡ true → slice_get (waits_in (job.acts n t)) j ≡ Some ds
        → Each (λ d. job.object n d ≢ None) ds
    -- what is seen with one more comes from a task that has ended
    pub unseen : (d : D) (t : Task D) → job.task_of d ≡ Some t → job.object zero d ≡ None
    pub seen : (n : ℕ) (d : D) (t : Task D) → job.task_of d ≡ Some t → job.object (suc n) d ≢ None → job.ended n t ≡ true

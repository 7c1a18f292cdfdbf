-- What a task comes to where all that it waits for is seen.
use Rattle.std.specs.Prelude.{◌≡◌, ◌≢◌, ℕ, ◌≤◌, List, Bool, true, Some, None, ◌⊎◌}
use Rattle.sky_base.specs.See.{Desc, Job, Around, see}
use Rattle.sky_base.specs.Needed.{Task, wait_at}
use Rattle.sky_base_law.specs.Tasks.{Each, ended, Ends, NextEnd, NextWait}

module _ (job : Job) (around : Around) (n : ℕ) where
  -- the object of each of these is seen, with n
  abbrev pub AllSeen : List Desc → Type 0
  AllSeen ds = Each (λ d. see job around n d ≢ None) ds

  -- what t waits for at each of its waits is seen, as far as n tells of them
  abbrev pub WaitsSeen : Task → Type 0
  WaitsSeen t = (j : ℕ) (ds : List Desc) → wait_at job around n t j ≡ Some ds → AllSeen ds

  -- and what it waits for up to its wait j
  abbrev pub SeenUpTo : Task → ℕ → Type 0
  SeenUpTo t j = (k : ℕ) (ds : List Desc) → k ≤ j → wait_at job around n t k ≡ Some ds → AllSeen ds

  -- all that the test picks is seen
  abbrev pub PicksSeen : (Desc → Bool) → Type 0
  PicksSeen picks = (d : Desc) → picks d ≡ true → see job around n d ≢ None

-- what a test picks
abbrev pub Picked : (Desc → Bool) → Desc → Type 0
Picked picks d = picks d ≡ true

module _ (job : Job) (around : Around) (picks : Desc → Bool) (t : Task) (j : ℕ) where
  -- it comes to its end, and after its wait j it waits for nothing else
  pub record ComesToEnd : Type 0 where
    pub ends : Ends job around t
    pub passes : NextEnd job around (Picked picks) t j

  -- the end, or the first wait after j for something that the test doesn't pick
  abbrev pub Next : Type 0
  Next = ComesToEnd ⊎ ((i : ℕ) × NextWait job around (Picked picks) t j i)

abbrev pub EndsWhereSeen : Type 0
EndsWhereSeen = (job : Job) (around : Around) (n : ℕ) (t : Task) → WaitsSeen job around n t → ended job around n t ≡ true

abbrev pub NextIsThere : Type 0
NextIsThere =
    (job : Job) (around : Around) (n : ℕ) (t : Task) (j : ℕ) (picks : Desc → Bool)
    → PicksSeen job around n picks → SeenUpTo job around n t j → Next job around picks t j

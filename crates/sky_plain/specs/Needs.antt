-- What a job comes to need: chains of descriptions that wait for each other, and how many descriptions are made.
use Rattle.std.specs.Prelude.{◌≡◌, ℕ, zero, suc, List, length, Some, ◌⊎◌}
use Rattle.sky_base.specs.See.{Desc, Job, Around, main_call}
use Rattle.sky_base.specs.Needed.{Task, task_of, WaitOf, Needed}
use Rattle.sky_base_law.specs.Tasks.{In, Each, Apart, made_in, acts_of}

module _ (job : Job) (around : Around) where
  -- this stands in a wait of the task
  abbrev pub Waits : Task → Desc → Type 0
  Waits t d = (j : ℕ) × (ds : List Desc) × WaitOf job around t j ds × In d ds

  -- so many descriptions, the first of which the root task waits for, and each further one of which stands in a wait of the
  -- task of the one before it; d is the last
  abbrev pub Chain : ℕ → Desc → Type 0
  Chain zero d = ⊥
  Chain (suc zero) d = Waits Task.show d
  Chain (suc (suc k)) d = (e : Desc) × (t : Task) × Chain (suc k) e × (task_of e ≡ Some t) × Waits t d

  -- the main call, or what a needed task makes
  abbrev pub Makes : Desc → Type 0
  Makes d = (d ≡ main_call) ⊎ ((t : Task) × (n : ℕ) × Needed job around t × In d (made_in (acts_of job around n t)))

  -- so many distinct descriptions are made, the main call included
  abbrev pub MakesMany : ℕ → Type 0
  MakesMany k = (ds : List Desc) × (length ds ≡ k) × Apart ds × Each Makes ds

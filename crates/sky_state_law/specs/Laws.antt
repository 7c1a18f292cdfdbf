-- Laws of waits and of what is made between them.
use Rattle.std.specs.Prelude.{◌≡◌, ◌<◌, ◌≤◌, ◌++◌, ℕ, List, Some}
use Rattle.sky_base.specs.Needed.{State, Task, stands_at, wait_at}
use Rattle.sky_base.specs.See.{Around, Desc, Job}
use Rattle.sky_base_law.specs.Tasks.{made_after, made_between}
use Rattle.sky_base_law.specs.EndsLaws.{AllSeen}

-- where a task stands at a wait, all that it waited for before is seen, with the same fuel
abbrev pub SeenBefore : Type 0
SeenBefore =
    (job : Job) (around : Around) (n : ℕ) (t : Task) (j : ℕ) (a : State) → stands_at job around n t j ≡ Some a
    → (i : ℕ) (ds : List Desc) → i < j → wait_at job around n t i ≡ Some ds → AllSeen job around n ds

-- what is made from the wait j to the wait i, or to the end, by way of the wait k
pub record MadeInParts : Type 0 where
  pub between : (job : Job) (around : Around) (n : ℕ) (t : Task) (j k i : ℕ) → j ≤ k → k ≤ i → made_between job around n t j i
      ≡ made_between job around n t j k ++ made_between job around n t k i
  pub after : (job : Job) (around : Around) (n : ℕ) (t : Task) (j k : ℕ) → j ≤ k → made_after job around n t j ≡ made_between job around n t j k
      ++ made_after job around n t k

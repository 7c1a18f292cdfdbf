-- Behind its end a task has no wait.
use Rattle.std.proofs.Common.{◌≡◌, ◌≢◌, ℕ, zero, suc, ◌+◌, ◌-◌, ◌<◌, ◌≤◌, true, List, [], ◌∷◌, Option, Some, None, slice_get, refl, sym, ap, ◌∙◌}
use Rattle.std.proofs.Common.{subst, arith}
use Rattle.sky_base.specs.See.{Desc, Job, Around}
use Rattle.sky_base.specs.Needed.{Task, wait_at}
use Rattle.sky_base_law.specs.NamesLaws.{Tag}
use Rattle.sky_base_law.specs.Tasks.{waits_in, acts_of, ended}
use Rattle.sky_base_law.proofs.MoreFuel.{ended_stays_to}
use Rattle.sky_base_law.proofs.TaskFuel.{waits_at}
use Rattle.sky_state_law.specs.Moves.{WaitsNoMore}
use Rattle.sky_state_law.proofs.MadeSegments.{wait_to}

some_not : {A : Type 0} (a : A) → Some a ≢ None
some_not a e = cc

-- a list has nothing behind a place at which it has nothing
none_on : {A : Type 0} (xs : List A) (j i : ℕ) → j ≤ i → slice_get xs j ≡ None → slice_get xs i ≡ None
none_on [] j i le e = refl
none_on (x ∷ xs) zero i le e = absurd (some_not x e)
none_on (x ∷ xs) (suc j) zero le e = absurd (omega (arith, le))
none_on (x ∷ xs) (suc j) (suc i) le e = none_on xs j i (omega (arith, le)) e

module _ (tag : Tag) (job : Job) (around : Around) where
  -- a task that has ended, and has no next wait as far as n tells, has no further one
  pub no_later : (n : ℕ) (t : Task) (j : ℕ) → ended job around n t ≡ true → wait_at job around n t (suc j) ≡ None → WaitsNoMore tag job around t j
  no_later n t j e none zero ds lt w = absurd (omega (arith, lt))
  no_later n t j e none (suc i) ds lt (m, at) =
      let same : acts_of job around (m + n) t ≡ acts_of job around n t = (ended_stays_to job around n (m + n) t (omega arith) e).1 in
      let there : slice_get (waits_in (acts_of job around (m + n) t)) i ≡ Some ds = waits_at job around (m + n) t i
      ∙ wait_to job around m (m + n) t (suc i) ds (omega arith) at in
      let gone : slice_get (waits_in (acts_of job around n t)) i ≡ None =
      none_on (waits_in (acts_of job around n t)) j i (omega (arith, lt)) (waits_at job around n t j ∙ none) in
      some_not ds (sym there ∙ ap (λ x. slice_get (waits_in x) i) same ∙ gone)

-- What is known of the steps of a search.
use Rattle.std.specs.Prelude.{◌≡◌, ◌≤◌, ◌<◌, ℕ, suc, List, [], ◌∷◌, ◌++◌, length, reverse, slice_get, Option, Some, None, Contains}
use Rattle.sky_base.specs.declared.object.TaskId.{TaskId}
use Rattle.ciel_look_tasks.specs.Seen.{Seen}
use Rattle.ciel_look_text.specs.Now.{Now, waits_for}
use Rattle.ciel_look_text.specs.Steps.{named_from, target}
use Rattle.ciel_look_text.specs.Why.{Chain}
use Rattle.ciel_look_text.specs.declared.search.Step.{Step}

-- a chain of so many needs leads from the result to the task of the step at a place, whatever steps are put behind
pub record IsLed (s : Seen) (now : Now) (xs : List Step) (i : ℕ) (x : Step) (d : ℕ) : Type 0 where
  pub names : List (List ℕ)
  pub named : (more : List Step) (most : ℕ) → d ≤ most → named_from most (xs ++ more) (Some i) ≡ reverse names
  pub long : length names ≡ d
  pub short : d ≤ suc i
  pub chain : Chain s now TaskId.Show names (TaskId.Of x.to)

-- so each step is led to, by as many needs as stand at its place; fewer lead to those before it
pub record AreLed (s : Seen) (now : Now) (xs : List Step) (ds : List ℕ) : Type 0 where
  pub same : length ds ≡ length xs
  pub led : (i : ℕ) (x : Step) → slice_get xs i ≡ Some x → (d : ℕ) × (slice_get ds i ≡ Some d) × IsLed s now xs i x d
  pub sorted : (i j a b : ℕ) → i ≤ j → slice_get ds i ≡ Some a → slice_get ds j ≡ Some b → a ≤ b

-- a task is reached by at most so many needs
pub record IsReachedBy (xs : List Step) (ds : List ℕ) (to : List ℕ) (most : ℕ) : Type 0 where
  pub place : ℕ
  pub step : Step
  pub there : slice_get xs place ≡ Some step
  pub own : step.to ≡ to
  pub needs : ℕ
  pub counted : slice_get ds place ≡ Some needs
  pub few : needs ≤ most

-- each task that this one needs, which so many needs lead to, is reached by one more
abbrev pub IsFollowed : Seen → Now → TaskId → (d : ℕ) → List Step → List ℕ → Type 0
IsFollowed s now t d xs ds = (name to : List ℕ) → Contains (waits_for s now t) name → target s now name ≡ Some to → IsReachedBy xs ds to (suc d)

-- so it is of the first so many
abbrev pub AreFollowed : Seen → Now → ℕ → List Step → List ℕ → Type 0
AreFollowed s now n xs ds =
    (i : ℕ) (x : Step) (d : ℕ) → i < n → slice_get xs i ≡ Some x → slice_get ds i ≡ Some d → IsFollowed s now (TaskId.Of x.to) d xs ds

-- all are led to, the root task and the first so many are followed, and all are as near as what the next one needs
pub record IsSearched (s : Seen) (now : Now) (n : ℕ) (xs : List Step) : Type 0 where
  pub counts : List ℕ
  pub led : AreLed s now xs counts
  pub root : IsFollowed s now TaskId.Show 0 xs counts
  pub followed : AreFollowed s now n xs counts
  pub near : (d j b : ℕ) → slice_get counts n ≡ Some d → slice_get counts j ≡ Some b → b ≤ suc d

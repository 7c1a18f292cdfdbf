-- The starts of each task, by their places.
use Rattle.std.specs.Prelude.{◌≡◌, ℕ, suc, List, [], ◌∷◌, ◌++◌, false, cond, map}
use Rattle.std.specs.List.{list_any}
use Rattle.sky_base.specs.declared.object.TaskId.{TaskId}
use Rattle.ciel_look_tasks.specs.Tasks.{Start, same_task}

-- where the starts of a task stand, the first start at this place
abbrev pub places_of : TaskId → (at : ℕ) → List Start → List ℕ
places_of t at [] = []
places_of t at (s ∷ ss) = cond (same_task t s.1.1.1) (at ∷ places_of t (suc at) ss) (places_of t (suc at) ss)

-- each task stands there once
abbrev pub AreOnce : List TaskId → Type 0
AreOnce [] = Unit {0}
AreOnce (t ∷ ts) = (list_any (same_task t) ts ≡ false) × AreOnce ts

-- ---- tasks with their starts

-- a task, and where its starts stand
abbrev pub Filed : Type 0
Filed = TaskId × List ℕ

abbrev pub filed_task : Filed → TaskId
filed_task r = r.0

abbrev pub filed : List Start → TaskId → Filed
filed ss t = (t, places_of t 0 ss)

-- the tasks with one more, unless it is there
abbrev pub with_row : List Filed → TaskId → List Filed
with_row rs t = cond (list_any (same_task t) (map filed_task rs)) rs (rs ++ (t, []) ∷ [])

-- each task stands there once, with its starts; no other one was started
pub record AreFiled (rs : List Filed) (ss : List Start) : Type 0 where
  pub rows : rs ≡ map (filed ss) (map filed_task rs)
  pub once : AreOnce (map filed_task rs)
  pub none : (t : TaskId) → list_any (same_task t) (map filed_task rs) ≡ false → places_of t 0 ss ≡ []

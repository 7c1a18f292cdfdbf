-- The search for a task, step by step: each step is by a name from a task that was reached before.
use Rattle.std.specs.Prelude.{ℕ, zero, suc, List, [], ◌∷◌, ◌++◌, Bool, cond, map, slice_get, Option, Some, None}
use Rattle.std.specs.List.{list_any}
use Rattle.sky_base.specs.declared.object.TaskId.{TaskId}
use Rattle.ciel_look_tasks.specs.Known.{maker_as}
use Rattle.ciel_look_tasks.specs.Seen.{Row, Seen}
use Rattle.ciel_look_tasks.specs.Tasks.{place_in, same_task}
use Rattle.ciel_look_text.specs.Now.{Now, is_there}
use Rattle.ciel_look_text.specs.Why.{is_row}
use Rattle.ciel_look_text.specs.declared.search.Step.{Step}

-- ---- the task that a name leads to

-- one that was started, and isn't the root task
abbrev pub started_as : List Row → TaskId → Option (List ℕ)
started_as rs TaskId.Show = None
started_as rs (TaskId.Of n) = cond (is_row (TaskId.Of n) rs) (Some n) None

abbrev pub started_of : List Row → Option TaskId → Option (List ℕ)
started_of rs None = None
started_of rs (Some t) = started_as rs t

-- none where the object is there
abbrev pub target : Seen → Now → List ℕ → Option (List ℕ)
target s now name = cond (is_there s now name) None (started_of s.rows (maker_as name s.makers))

-- ---- steps

abbrev pub step_id : Step → TaskId
step_id x = TaskId.Of x.to

abbrev pub step_ids : List Step → List TaskId
step_ids xs = map step_id xs

-- where a task was reached
abbrev pub step_place : List ℕ → List Step → Option ℕ
step_place n xs = place_in (TaskId.Of n) (step_ids xs)

abbrev pub is_reached : List ℕ → List Step → Bool
is_reached n xs = list_any (same_task (TaskId.Of n)) (step_ids xs)

-- the steps with one more, unless its task was reached before
abbrev pub with_step : List Step → Step → List Step
with_step xs x = cond (is_reached x.to xs) xs (xs ++ x ∷ [])

abbrev pub step_by : (from : Option ℕ) → (name to : List ℕ) → Step
step_by from name to = record { name = name; to = to; from = from }

abbrev pub with_target : (from : Option ℕ) → (name : List ℕ) → List Step → Option (List ℕ) → List Step
with_target from name xs None = xs
with_target from name xs (Some to) = with_step xs (step_by from name to)

-- with those by these names
abbrev pub with_names : Seen → Now → (from : Option ℕ) → List (List ℕ) → List Step → List Step
with_names s now from [] xs = xs
with_names s now from (n ∷ ns) xs = with_names s now from ns (with_target from n xs (target s now n))

-- ---- the names that lead to a step

-- that of a step, if there is one, before those that come with its place
abbrev pub named_step : Option Step → (Option ℕ → List (List ℕ)) → List (List ℕ)
named_step None rest = []
named_step (Some x) rest = x.name ∷ rest x.from

-- the last one first; so many at the most
abbrev pub named_from : (most : ℕ) → List Step → Option ℕ → List (List ℕ)
named_from zero xs at = []
named_from (suc most) xs None = []
named_from (suc most) xs (Some i) = named_step (slice_get xs i) (λ o. named_from most xs o)

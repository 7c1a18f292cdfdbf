-- The tasks of a run, in the order of their first starts; its starts, and its losses.
use Rattle.std.specs.Prelude.{ℕ, suc, List, [], ◌∷◌, ◌++◌, Bool, true, false, not, cond, flat_map, Option, Some, None}
use Rattle.std.specs.List.{filter, list_any}
use Rattle.std.specs.Option.{option_map}
use Rattle.sky_base.specs.Val.{same_text}
use Rattle.sky_base.specs.declared.object.TaskId.{TaskId}
use Rattle.ciel_look_told.specs.Told as told
use Rattle.ciel_look_told.specs.Told.{Told}

abbrev pub same_task : TaskId → TaskId → Bool
same_task TaskId.Show TaskId.Show = true
same_task TaskId.Show (TaskId.Of m) = false
same_task (TaskId.Of n) TaskId.Show = false
same_task (TaskId.Of n) (TaskId.Of m) = same_text n m

-- the task that is started, if one is
abbrev pub begun : Told → List TaskId
begun (told.started number worker from task) = task ∷ []
begun (told.ended number spawned copied how) = []
begun (told.lost worker after) = []
begun (told.late number) = []

-- each task once, where it stands first
abbrev pub once : List TaskId → List TaskId
once [] = []
once (t ∷ ts) = t ∷ filter (λ u. not (same_task t u)) (once ts)

-- the tasks of what is told
abbrev pub tasks : List Told → List TaskId
tasks ts = once (flat_map begun ts)

-- the start that is told, if one is: its number, its worker, the wait from which the task goes on, and the task
abbrev pub Start : Type 0
Start = ℕ × (ℕ × (ℕ × TaskId))

abbrev pub start_of : Told → List Start
start_of (told.started number worker from task) = (number, (worker, (from, task))) ∷ []
start_of (told.ended number spawned copied how) = []
start_of (told.lost worker after) = []
start_of (told.late number) = []

abbrev pub starts : List Told → List Start
starts ts = flat_map start_of ts

-- the loss that is told, if one is: the worker, and how many started tasks had been closed
abbrev pub loss_of : Told → List (ℕ × ℕ)
loss_of (told.started number worker from task) = []
loss_of (told.ended number spawned copied how) = []
loss_of (told.lost worker after) = (worker, after) ∷ []
loss_of (told.late number) = []

abbrev pub losses : List Told → List (ℕ × ℕ)
losses ts = flat_map loss_of ts

-- ---- of inner calls

-- the list with a task at its end, unless it is there
abbrev pub with_task : List TaskId → TaskId → List TaskId
with_task ts t = cond (list_any (same_task t) ts) ts (ts ++ t ∷ [])

abbrev pub with_tasks : List TaskId → List TaskId → List TaskId
with_tasks ts [] = ts
with_tasks ts (u ∷ us) = with_tasks (with_task ts u) us

-- where a task stands first
abbrev pub place_in : TaskId → List TaskId → Option ℕ
place_in t [] = None
place_in t (u ∷ us) = cond (same_task t u) (Some 0) (option_map suc (place_in t us))

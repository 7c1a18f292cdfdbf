-- Which tasks' stacks a loss took.
use Rattle.std.specs.Prelude.{ℕ, List, [], ◌∷◌, ◌++◌, Bool, false, ◌&&◌, cond, nat_eq, Option, Some, None}
use Rattle.std.specs.List.{filter}
use Rattle.std.specs.Option.{option_or}
use Rattle.sky_base.specs.declared.object.TaskId.{TaskId}
use Rattle.ciel_look_told.specs.Told as told
use Rattle.ciel_look_told.specs.Told.{Told}
use Rattle.ciel_look_tasks.specs.Orders.{Ending, is_wait, orders}
use Rattle.ciel_look_tasks.specs.Tasks.{Start, same_task, tasks}

-- the last order of a task
abbrev pub last_order : TaskId → List (Start × Ending) → Option (Start × Ending)
last_order t [] = None
last_order t (o ∷ os) = option_or (last_order t os) (cond (same_task t o.0.1.1.1) (Some o) None)

-- it ended at a wait, at this worker
abbrev pub saved_at : (worker : ℕ) → Option (Start × Ending) → Bool
saved_at w None = false
saved_at w (Some o) = nat_eq w o.0.1.0 && is_wait o.1

-- the stack of a task lies at this worker
abbrev pub has_stack : (worker : ℕ) → List (Start × Ending) → TaskId → Bool
has_stack w os t = saved_at w (last_order t os)

-- of these tasks, behind these orders: those whose stacks lay at a worker, if it is lost
abbrev pub stacked_by : List TaskId → List (Start × Ending) → Told → List (List TaskId)
stacked_by us os (told.started number worker from task) = []
stacked_by us os (told.ended number spawned copied how) = []
stacked_by us os (told.lost worker after) = filter (has_stack worker os) us ∷ []
stacked_by us os (told.late number) = []

-- behind what was told before
abbrev pub stacked_behind : List Told → List Told → List (List TaskId)
stacked_behind before [] = []
stacked_behind before (t ∷ ts) = stacked_by (tasks before) (orders before) t ++ stacked_behind (before ++ t ∷ []) ts

-- of each loss, the tasks whose last order had ended at a wait, at its worker
abbrev pub stacked : List Told → List (List TaskId)
stacked ts = stacked_behind [] ts

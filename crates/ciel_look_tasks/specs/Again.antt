-- Which starts began a task again.
use Rattle.std.specs.Prelude.{◌≡◌, ℕ, List, [], ◌∷◌, ◌++◌, Bool, ◌&&◌, nat_eq}
use Rattle.std.specs.List.{list_any}
use Rattle.sky_base.specs.declared.object.TaskId.{TaskId}
use Rattle.ciel_look_told.specs.Told as told
use Rattle.ciel_look_told.specs.Told.{Told}
use Rattle.ciel_look_tasks.specs.Origins.{has_origin}
use Rattle.ciel_look_tasks.specs.Tasks.{Start, same_task, start_of}
use Rattle.ciel_look_tasks.specs.declared.origins.Origins.{Origins}

-- a start of this task from this wait
abbrev pub is_from : TaskId → (wait : ℕ) → Start → Bool
is_from t w s = same_task t s.1.1.1 && nat_eq s.1.1.0 w

-- behind these starts: whether the task had been started from the same wait, if one is started
abbrev pub again_behind : List Start → Told → List Bool
again_behind ss (told.started number worker from task) = list_any (is_from task from) ss ∷ []
again_behind ss (told.ended number spawned copied how) = []
again_behind ss (told.lost worker after) = []
again_behind ss (told.late number) = []

abbrev pub agains_behind : List Start → List Told → List Bool
agains_behind ss [] = []
agains_behind ss (t ∷ ts) = again_behind ss t ++ agains_behind (ss ++ start_of t) ts

-- of each start, whether its task had been started from the same wait before
abbrev pub agains : List Told → List Bool
agains ts = agains_behind [] ts

-- ---- of inner calls

-- these are the origins of the starts
abbrev pub TellsOrigins : Origins → List Start → Type 0
TellsOrigins o ss = (t : TaskId) (w : ℕ) → has_origin o t w ≡ list_any (is_from t w) ss

abbrev pub again_by : Origins → Told → List Bool
again_by o (told.started number worker from task) = has_origin o task from ∷ []
again_by o (told.ended number spawned copied how) = []
again_by o (told.lost worker after) = []
again_by o (told.late number) = []

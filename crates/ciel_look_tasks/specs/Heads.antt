-- Tasks with the places of their descriptions.
use Rattle.std.specs.Prelude.{◌≡◌, ℕ, List, [], ◌∷◌, ◌++◌, true, cond, flat_map, map, slice_get, Option, Some, None}
use Rattle.std.specs.List.{list_any}
use Rattle.sky_base.specs.Val.{Desc}
use Rattle.sky_base.specs.declared.object.TaskId.{TaskId}
use Rattle.ciel_look_told.specs.Head.{Head}
use Rattle.ciel_look_told.specs.Told as told
use Rattle.ciel_look_told.specs.Told.{Told}
use Rattle.ciel_look_words.specs.declared.known.Known.{Known}
use Rattle.ciel_look_tasks.specs.Known.{Named, place_of}
use Rattle.ciel_look_tasks.specs.Learned.{desc_of}
use Rattle.ciel_look_tasks.specs.Tasks.{begun, same_task}

-- a task, and the place of its description, if it was known when the task was first started
abbrev pub Heading : Type 0
Heading = TaskId × Option ℕ

abbrev pub heading_task : Heading → TaskId
heading_task h = h.0

-- the description at a place, with its name
abbrev pub named_in : List Named → Option ℕ → Option Named
named_in ks None = None
named_in ks (Some i) = slice_get ks i

-- the place of a task's description
abbrev pub task_place : TaskId → List Known → Option ℕ
task_place TaskId.Show ks = None
task_place (TaskId.Of n) ks = place_of n ks

-- the tasks with one more, unless it is there
abbrev pub with_heading : List Heading → TaskId → Option ℕ → List Heading
with_heading hs t k = cond (list_any (same_task t) (map heading_task hs)) hs (hs ++ (t, k) ∷ [])

-- with the task that is started, if one is
abbrev pub with_begun : List Known → List Heading → Told → List Heading
with_begun ks hs (told.started number worker from task) = with_heading hs task (task_place task ks)
with_begun ks hs (told.ended number spawned copied how) = hs
with_begun ks hs (told.lost worker after) = hs
with_begun ks hs (told.late number) = hs

-- a description, where its name is that of the task
abbrev pub own_desc : TaskId → Option Named → Option (Desc (List ℕ))
own_desc t None = None
own_desc t (Some k) = cond (same_task t (TaskId.Of k.0)) (Some k.1) None

-- the task was started, and at the place stands what was known of it then, whatever is learned behind
pub record IsDescribed (head : Head) (ts : List Told) (ks : List Named) (h : Heading) : Type 0 where
  pub started : list_any (same_task h.0) (flat_map begun ts) ≡ true
  pub desc : own_desc h.0 (named_in ks h.1) ≡ desc_of head ts h.0
  pub stays : (more : List Named) → named_in (ks ++ more) h.1 ≡ named_in ks h.1

abbrev pub AreDescribed : Head → List Told → List Named → List Heading → Type 0
AreDescribed head ts ks [] = Unit {0}
AreDescribed head ts ks (h ∷ hs) = IsDescribed head ts ks h × AreDescribed head ts ks hs

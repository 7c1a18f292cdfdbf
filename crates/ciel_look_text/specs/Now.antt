-- What stands at some time of a run: who has what, and who waits for what.
use Rattle.std.specs.Prelude.{ℕ, List, [], ◌∷◌, ◌++◌, Bool, true, false, not, ◌&&◌, ◌||◌, cond, flat_map, map, nat_eq, slice_get, Option, Some, None}
use Rattle.std.specs.List.{list_any}
use Rattle.sky_base.specs.Val.{Desc, call, distinct, input, known, out, refs, same_text}
use Rattle.sky_base.specs.declared.object.TaskId.{TaskId}
use Rattle.ciel_look_tasks.specs.Happened as what
use Rattle.ciel_look_tasks.specs.Happened.{Happened}
use Rattle.ciel_look_tasks.specs.Known.{Named, known_as}
use Rattle.ciel_look_tasks.specs.Orders.{is_wait}
use Rattle.ciel_look_tasks.specs.SceneView.{one_of}
use Rattle.ciel_look_tasks.specs.Seen as seen
use Rattle.ciel_look_tasks.specs.Seen.{Close, Order, Row, Seen, Taken, ending_of, is_of}
use Rattle.ciel_look_tasks.specs.Tasks.{same_task}

-- an order began, or ended; a worker was lost
pub data Event : Type 0 where
  began : Order → Event
  closed : Order → Event
  taken : Taken → Event

-- what happened at places of a run
abbrev pub event_of : Seen → Happened → List Event
event_of s (what.began p) = map began (one_of (slice_get s.orders p))
event_of s (what.ended p) = map closed (one_of (slice_get s.orders p))
event_of s (what.lost p) = map taken (one_of (slice_get s.losses p))

abbrev pub events : Seen → List Event
events s = flat_map (event_of s) s.happened

-- ---- what stands

-- the workers that have an object of a name, the orders of a task that ended at a wait, in order, and the workers that are lost
pub record Now : Type 0 where
  pub workers : List ℕ → List ℕ
  pub saved : TaskId → List Order
  pub gone : List ℕ

abbrev pub nothing_yet : Now
nothing_yet = record { workers = λ name. []; saved = λ t. []; gone = [] }

abbrev pub order_worker : Order → ℕ
order_worker o = o.start.1.0

-- the worker, once for each of these names that is the name
abbrev pub have : (worker : ℕ) → List (List ℕ) → (name : List ℕ) → List ℕ
have w names name = flat_map (λ n. cond (same_text name n) (w ∷ []) []) names

abbrev pub saved_by : Order → TaskId → List Order
saved_by o t = cond (is_of t o && is_wait (ending_of o.close)) (o ∷ []) []

abbrev pub after : Event → Now → Now
after (began o) now = now
after (closed o) now =
    record {
      workers = λ name. now.workers name ++ (have (order_worker o) o.took name ++ have (order_worker o) o.made name);
      saved = λ t. now.saved t ++ saved_by o t;
      gone = now.gone;
    }
after (taken l) now = record { workers = now.workers; saved = now.saved; gone = now.gone ++ l.loss.0 ∷ [] }

abbrev pub after_all : List Event → Now → Now
after_all [] now = now
after_all (e ∷ es) now = after_all es (after e now)

-- ---- what is there

abbrev pub is_gone : List ℕ → ℕ → Bool
is_gone gone w = list_any (λ g. nat_eq g w) gone

abbrev pub is_left : List ℕ → ℕ → Bool
is_left gone w = not (is_gone gone w)

-- it lies at a worker that isn't lost
abbrev pub lies : Now → List ℕ → Bool
lies now name = list_any (is_left now.gone) (now.workers name)

abbrev pub is_input : Option (Desc (List ℕ)) → Bool
is_input None = false
is_input (Some (call f c vs)) = false
is_input (Some (out x v n i)) = false
is_input (Some (input k)) = true
is_input (Some (known n)) = false

-- an input, or an object at a worker that isn't lost
abbrev pub is_there : Seen → Now → List ℕ → Bool
is_there s now name = is_input (known_as name s.known) || lies now name

-- ---- what a task waits for

-- the last of these orders at a worker that isn't lost, else this one
abbrev pub latest : (gone : List ℕ) → Option Order → List Order → Option Order
latest gone last [] = last
latest gone last (o ∷ os) = latest gone (cond (is_left gone (order_worker o)) (Some o) last) os

abbrev pub waits : Close → List (List ℕ)
waits seen.out = []
waits seen.lost = []
waits (seen.told outcome names) = names

-- the names in what an executor is given
abbrev pub ref_name : Desc (List ℕ) → List (List ℕ)
ref_name (known n) = n ∷ []
ref_name (call f c vs) = []
ref_name (out x v n i) = []
ref_name (input k) = []

abbrev pub given_names : Option (Desc (List ℕ)) → List (List ℕ)
given_names None = []
given_names (Some (call f c vs)) = []
given_names (Some (out x v n i)) = flat_map ref_name (distinct same_text (refs v))
given_names (Some (input k)) = []
given_names (Some (known n)) = []

abbrev pub first_name : List Named → List (List ℕ)
first_name [] = []
first_name (k ∷ ks) = k.0 ∷ []

abbrev pub desc_in : TaskId → List Row → Option (Desc (List ℕ))
desc_in t [] = None
desc_in t (r ∷ rs) = cond (same_task t r.task) r.desc (desc_in t rs)

-- before it has started the root task waits for the main call, an executor for what it is given
abbrev pub at_first : Seen → TaskId → List (List ℕ)
at_first s TaskId.Show = first_name s.known
at_first s (TaskId.Of n) = given_names (desc_in (TaskId.Of n) s.rows)

abbrev pub waits_or : Option Order → List (List ℕ) → List (List ℕ)
waits_or None names = names
waits_or (Some o) names = waits o.close

-- the names that a task waits for: at its last wait of which the stack is there, else from the first on
abbrev pub waits_for : Seen → Now → TaskId → List (List ℕ)
waits_for s now t = waits_or (latest now.gone None (now.saved t)) (at_first s t)

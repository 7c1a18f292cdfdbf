-- What the code's replays stand for.
use Rattle.std.specs.Prelude.{ℕ, List, [], map, slice_get, Option, Some, None, Vec}
use Rattle.std.specs.BTreeMap.{BTreeMap, get}
use Rattle.std.specs.declared.alloc.Global.{Global}
use Rattle.sky_base.specs.NameOrder.{name_cmp}
use Rattle.sky_base.specs.Val.{Desc}
use Rattle.sky_base.specs.declared.object.TaskId.{TaskId}
use Rattle.ciel_look_tasks.specs.Heads.{own_desc}
use Rattle.ciel_look_tasks.specs.Known.{named_at}
use Rattle.ciel_look_tasks.specs.SceneView.{one_of, order_view, picked, taken_view}
use Rattle.ciel_look_tasks.specs.Seen.{Order}
use Rattle.ciel_look_tasks.specs.declared.scene.Happening.{Happening}
use Rattle.ciel_look_tasks.specs.declared.scene.Loss.{Loss}
use Rattle.ciel_look_tasks.specs.declared.scene.Run.{Run}
use Rattle.ciel_look_tasks.specs.declared.scene.Scene.{Scene}
use Rattle.ciel_look_tasks.specs.declared.scene.Task.{Task}
use Rattle.ciel_look_text.specs.Now.{Event, Now, began, closed, taken}
use Rattle.ciel_look_text.specs.declared.replay.Replay.{Replay}

-- the members of a list, if there is one
abbrev pub listed : {A : Type 0} → Option (Vec A Global) → List A
listed None = []
listed (Some v) = v.items

-- the list of a name
abbrev pub listed_at : {A : Type 0} → BTreeMap (List ℕ) (Vec A Global) → List ℕ → List A
listed_at m n = listed (get name_cmp m n)

-- the places of the orders of a task: those of the root task, and those of the others
abbrev pub saves_at : List ℕ → BTreeMap (List ℕ) (Vec ℕ Global) → TaskId → List ℕ
saves_at show others TaskId.Show = show
saves_at show others (TaskId.Of n) = listed_at others n

-- the orders at these places
abbrev pub orders_at : List Run → List ℕ → List Order
orders_at rs places = map order_view (picked rs places)

abbrev pub stand_by : List Run → BTreeMap (List ℕ) (Vec ℕ Global) → (show : List ℕ) → BTreeMap (List ℕ) (Vec ℕ Global) → (gone : List ℕ) → Now
stand_by rs places show others gone =
    record {
      workers = λ name. listed_at places name;
      saved = λ t. orders_at rs (saves_at show others t);
      gone = gone;
    }

abbrev pub stand_of : Scene → Replay → Now
stand_of s r = stand_by s.runs.items r.places r.show.items r.others r.gone.items

-- what happened
abbrev pub begun_event : Run → Event
begun_event r = began (order_view r)

abbrev pub closed_event : Run → Event
closed_event r = closed (order_view r)

abbrev pub taken_event : Scene → Loss → Event
taken_event s l = taken (taken_view s l)

abbrev pub event_view : Scene → Happening → List Event
event_view s (Happening.Begun place) = map begun_event (one_of (slice_get s.runs.items place))
event_view s (Happening.Ended place) = map closed_event (one_of (slice_get s.runs.items place))
event_view s (Happening.Lost place) = map (taken_event s) (one_of (slice_get s.losses.items place))

-- the description of a task, where there is one
abbrev pub desc_at : Scene → Option Task → Option (Desc (List ℕ))
desc_at s None = None
desc_at s (Some t) = own_desc t.id (named_at s.known.all.items t.known)

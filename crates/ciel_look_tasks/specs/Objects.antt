-- Which objects a loss took.
use Rattle.std.specs.Prelude.{◌≡◌, ℕ, List, [], ◌∷◌, ◌++◌, Bool, ◌&&◌, cond, flat_map, map, nat_eq}
use Rattle.std.specs.List.{AllZip, list_all, list_any}
use Rattle.std.specs.List.Sorted.{IsStrictlySortedBy}
use Rattle.sky_base.specs.NameOrder.{name_cmp}
use Rattle.sky_base.specs.Val.{same_text}
use Rattle.ciel_look_told.specs.Head.{Head}
use Rattle.ciel_look_told.specs.Told as told
use Rattle.ciel_look_told.specs.Told.{Told}
use Rattle.ciel_look_tasks.specs.Reports.{Report, reports}
use Rattle.ciel_look_tasks.specs.Tasks.{losses}

-- this worker, once for each of the names that is this one
abbrev pub put_at : (worker : ℕ) → List (List ℕ) → (name : List ℕ) → List ℕ
put_at w names n = flat_map (λ m. cond (same_text n m) (w ∷ []) []) names

-- what an order made, and what it took along, lies at its worker
abbrev pub put_by : (name : List ℕ) → Report → List ℕ
put_by n r = put_at r.worker (r.made ++ r.copied) n

-- the workers at which an object of a name was put
abbrev pub workers_of : List Report → (name : List ℕ) → List ℕ
workers_of rs n = flat_map (put_by n) rs

-- a loss: its worker, those that were lost before, and where objects had been put
pub record Taking : Type 0 where
  pub worker : ℕ
  pub gone : List ℕ
  pub at : (name : List ℕ) → List ℕ

-- this worker is one of these, and each of these is lost
abbrev pub takes_from : (worker : ℕ) → (lost : List ℕ) → (workers : List ℕ) → Bool
takes_from w lost ws = list_any (nat_eq w) ws && list_all (λ v. list_any (nat_eq v) lost) ws

-- the objects that it took: those that lay at its worker, and at no other one that isn't lost; each once, by the order of names
pub record IsTaken (t : Taking) (objects : List (List ℕ)) : Type 0 where
  pub each : (n : List ℕ) → list_any (same_text n) objects ≡ takes_from t.worker (t.gone ++ t.worker ∷ []) (t.at n)
  pub sorted : IsStrictlySortedBy name_cmp objects

abbrev pub lost_worker : ℕ × ℕ → ℕ
lost_worker l = l.0

-- behind what was told before: a loss, if one is told
abbrev pub taking_by : (gone : List ℕ) → (at : List ℕ → List ℕ) → Told → List Taking
taking_by gone at (told.started number worker from task) = []
taking_by gone at (told.ended number spawned copied how) = []
taking_by gone at (told.lost worker after) = record { worker = worker; gone = gone; at = at } ∷ []
taking_by gone at (told.late number) = []

abbrev pub takings_behind : Head → List Told → List Told → List Taking
takings_behind h before [] = []
takings_behind h before (t ∷ ts) =
    taking_by (map lost_worker (losses before)) (workers_of (reports h before)) t ++ takings_behind h (before ++ t ∷ []) ts

-- of each loss, the objects that it took are these
abbrev pub AreTaken : Head → List Told → List (List (List ℕ)) → Type 0
AreTaken h ts objects = AllZip IsTaken (takings_behind h [] ts) objects

-- What happened in a run, by the places of its orders and losses.
use Rattle.std.specs.Prelude.{ℕ, List, [], ◌∷◌, ◌++◌, cond, length, map, slice_get, Option, Some, None}
use Rattle.ciel_look_told.specs.Told as told
use Rattle.ciel_look_told.specs.Told.{Told}
use Rattle.ciel_look_tasks.specs.Orders.{Ending, is_open_at, last_of, orders}
use Rattle.ciel_look_tasks.specs.Tasks.{Start, losses, starts}

-- the order at this place began, or ended; the worker of the loss at this place was lost
pub data Happened : Type 0 where
  began : (order : ℕ) → Happened
  ended : (order : ℕ) → Happened
  lost : (loss : ℕ) → Happened

abbrev pub number_of : Start × Ending → ℕ
number_of o = o.0.0

-- the place of the last order of a number, where that is out
abbrev pub closing_at : List (Start × Ending) → Option ℕ → Option ℕ
closing_at os None = None
closing_at os (Some p) = cond (is_open_at (slice_get os p)) (Some p) None

abbrev pub closing : ℕ → List (Start × Ending) → Option ℕ
closing n os = closing_at os (last_of n (map number_of os))

abbrev pub if_ended : Option ℕ → List Happened
if_ended None = []
if_ended (Some p) = ended p ∷ []

-- behind so many starts, with these orders, and so many losses
abbrev pub happened_by : (starts : ℕ) → List (Start × Ending) → (losses : ℕ) → Told → List Happened
happened_by n os m (told.started number worker from task) = began n ∷ []
happened_by n os m (told.ended number spawned copied how) = if_ended (closing number os)
happened_by n os m (told.lost worker after) = lost m ∷ []
happened_by n os m (told.late number) = []

-- behind what was told before
abbrev pub happened_behind : List Told → List Told → List Happened
happened_behind before [] = []
happened_behind before (t ∷ ts) =
    happened_by (length (starts before)) (orders before) (length (losses before)) t ++ happened_behind (before ++ t ∷ []) ts

-- what happened, in order
abbrev pub happened : List Told → List Happened
happened ts = happened_behind [] ts

-- The orders of a run, by what is told of it, and how each ended.
use Rattle.std.specs.Prelude.{ℕ, suc, List, [], ◌∷◌, ◌++◌, Bool, true, false, ◌&&◌, cond, drop, map, nat_eq, take, Option, Some, None}
use Rattle.std.specs.List.{list_any}
use Rattle.ciel_look_told.specs.Told as told
use Rattle.ciel_look_told.specs.Told.{Outcome, Told}
use Rattle.ciel_look_tasks.specs.Tasks.{Start}

-- it is still out; it was lost with its worker; or as its report tells
pub data Ending : Type 0 where
  out : Ending
  lost : Ending
  ended : Outcome → Ending

-- it ended at a wait
abbrev pub is_wait : Ending → Bool
is_wait out = false
is_wait lost = false
is_wait (ended (told.made weights)) = false
is_wait (ended (told.saved j weight)) = true
is_wait (ended (told.answered weight)) = false
is_wait (ended (told.failed fault)) = false
is_wait (ended (told.missing name loss)) = false

-- an order that ends with its worker alone, by what is told
abbrev pub cut_of : (worker : ℕ) → List Told → Ending
cut_of worker [] = out
cut_of worker (told.started n w from task ∷ ts) = cut_of worker ts
cut_of worker (told.ended n spawned copied how ∷ ts) = cut_of worker ts
cut_of worker (told.lost w after ∷ ts) = cond (nat_eq w worker) lost (cut_of worker ts)
cut_of worker (told.late n ∷ ts) = cut_of worker ts

-- an order, by what is told behind its start: it ends with the first end of its number, or with its worker; behind a start that has its number
-- again, with its worker alone
abbrev pub end_of : (number worker : ℕ) → List Told → Ending
end_of number worker [] = out
end_of number worker (told.started n w from task ∷ ts) = cond (nat_eq n number) (cut_of worker ts) (end_of number worker ts)
end_of number worker (told.ended n spawned copied how ∷ ts) = cond (nat_eq n number) (ended how) (end_of number worker ts)
end_of number worker (told.lost w after ∷ ts) = cond (nat_eq w worker) lost (end_of number worker ts)
end_of number worker (told.late n ∷ ts) = end_of number worker ts

-- each order with its end
abbrev pub orders : List Told → List (Start × Ending)
orders [] = []
orders (told.started n w from task ∷ ts) = ((n, (w, (from, task))), end_of n w ts) ∷ orders ts
orders (told.ended n spawned copied how ∷ ts) = orders ts
orders (told.lost w after ∷ ts) = orders ts
orders (told.late n ∷ ts) = orders ts

-- ---- of inner calls: one entry more

abbrev pub has_number : ℕ → List (Start × Ending) → Bool
has_number n os = list_any (λ (o : Start × Ending). nat_eq o.0.0 n) os

abbrev pub or_here : Bool → Option ℕ → Option ℕ
or_here here (Some p) = Some (suc p)
or_here true None = Some 0
or_here false None = None

-- where the last order of a number stands
abbrev pub last_of : ℕ → List ℕ → Option ℕ
last_of n [] = None
last_of n (m ∷ ms) = or_here (nat_eq m n) (last_of n ms)

-- an order that is out ends so
abbrev pub ends : Ending → Ending → Ending
ends e out = e
ends e lost = lost
ends e (ended how) = ended how

abbrev pub is_out : Ending → Bool
is_out out = true
is_out lost = false
is_out (ended how) = false

abbrev pub is_open_at : Option (Start × Ending) → Bool
is_open_at None = false
is_open_at (Some o) = is_out o.1

abbrev pub is_out_at : ℕ → Option (Start × Ending) → Bool
is_out_at w None = false
is_out_at w (Some o) = is_out o.1 && nat_eq w o.0.1.0

-- where the order is the one
abbrev pub ends_if : Bool → Ending → Start × Ending → Start × Ending
ends_if is e o = (o.0, cond is (ends e o.1) o.1)

-- the last order of this number
abbrev pub closed : ℕ → Outcome → List (Start × Ending) → List (Start × Ending)
closed n how [] = []
closed n how (o ∷ os) = cond (has_number n os) (o ∷ closed n how os) (ends_if (nat_eq n o.0.0) (ended how) o ∷ os)

-- those at a worker
abbrev pub cut : ℕ → Start × Ending → Start × Ending
cut w o = ends_if (nat_eq w o.0.1.0) lost o

-- where the first so many were looked at
abbrev pub cut_so_far : (worker looked : ℕ) → List (Start × Ending) → List (Start × Ending)
cut_so_far w i os = map (cut w) (take i os) ++ drop i os

abbrev pub after_told : Told → List (Start × Ending) → List (Start × Ending)
after_told (told.started n w from task) os = os ++ ((n, (w, (from, task))), out) ∷ []
after_told (told.ended n spawned copied how) os = closed n how os
after_told (told.lost w after) os = map (cut w) os
after_told (told.late n) os = os

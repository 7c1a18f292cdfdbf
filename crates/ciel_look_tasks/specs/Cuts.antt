-- Which orders a loss cuts.
use Rattle.std.specs.Prelude.{ℕ, List, [], ◌∷◌, ◌++◌, cond, Some}
use Rattle.ciel_look_told.specs.Told as told
use Rattle.ciel_look_told.specs.Told.{Told}
use Rattle.ciel_look_tasks.specs.Orders.{Ending, is_out_at, orders}
use Rattle.ciel_look_tasks.specs.Tasks.{Start}

-- the numbers of the orders that are out at a worker
abbrev pub out_numbers : (worker : ℕ) → List (Start × Ending) → List ℕ
out_numbers w [] = []
out_numbers w (o ∷ os) = cond (is_out_at w (Some o)) (o.0.0 ∷ out_numbers w os) (out_numbers w os)

-- behind what was told before: those that are cut, if a worker is lost
abbrev pub cut_behind : List Told → Told → List (List ℕ)
cut_behind before (told.started number worker from task) = []
cut_behind before (told.ended number spawned copied how) = []
cut_behind before (told.lost worker after) = out_numbers worker (orders before) ∷ []
cut_behind before (told.late number) = []

abbrev pub cuts_behind : List Told → List Told → List (List ℕ)
cuts_behind before [] = []
cuts_behind before (t ∷ ts) = cut_behind before t ++ cuts_behind (before ++ t ∷ []) ts

-- of each loss, the numbers of the orders that were out at its worker
abbrev pub cuts : List Told → List (List ℕ)
cuts ts = cuts_behind [] ts

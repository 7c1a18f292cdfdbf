-- Where the orders stand that losses cut, as the code keeps it.
use Rattle.std.specs.Prelude.{◌<◌, ℕ, suc, List, [], ◌∷◌, Option, Some, cond, map}
use Rattle.ciel_look_told.specs.Told as told
use Rattle.ciel_look_told.specs.Told.{Told}
use Rattle.ciel_look_tasks.specs.Cuts.{out_numbers}
use Rattle.ciel_look_tasks.specs.Orders.{Ending, is_out_at}
use Rattle.ciel_look_tasks.specs.SceneView.{picked}
use Rattle.ciel_look_tasks.specs.Tasks.{Start}
use Rattle.ciel_look_tasks.specs.declared.scene.Loss.{Loss}

-- where those stand that are out at a worker, the first order at this place
abbrev pub out_places : (worker at : ℕ) → List (Start × Ending) → List ℕ
out_places w at [] = []
out_places w at (o ∷ os) = cond (is_out_at w (Some o)) (at ∷ out_places w (suc at) os) (out_places w (suc at) os)

-- where an order was looked at
abbrev pub if_out : (worker place : ℕ) → Option (Start × Ending) → List ℕ
if_out w i o = cond (is_out_at w o) (i ∷ []) []

-- the numbers of the orders that a loss cut, by the numbers of all
abbrev pub cut_view : List ℕ → Loss → List ℕ
cut_view ns l = picked ns l.runs.items

abbrev pub cuts_view : List ℕ → List Loss → List (List ℕ)
cuts_view ns ls = map (cut_view ns) ls

-- each of these places is below
abbrev pub AreBelow : ℕ → List ℕ → Type 0
AreBelow n [] = Unit {0}
AreBelow n (p ∷ ps) = (p < n) × AreBelow n ps

abbrev pub AreKept : ℕ → List Loss → Type 0
AreKept n [] = Unit {0}
AreKept n (l ∷ ls) = AreBelow n l.runs.items × AreKept n ls

-- what an entry cuts, behind these orders
abbrev pub cut_by : List (Start × Ending) → Told → List (List ℕ)
cut_by os (told.started number worker from task) = []
cut_by os (told.ended number spawned copied how) = []
cut_by os (told.lost worker after) = out_numbers worker os ∷ []
cut_by os (told.late number) = []

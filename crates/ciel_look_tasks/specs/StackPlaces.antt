-- Where the tasks stand whose stacks losses took, as the code keeps it.
use Rattle.std.specs.Prelude.{ℕ, suc, List, [], ◌∷◌, Bool, false, cond, length, map, Option, Some, None}
use Rattle.sky_base.specs.declared.object.TaskId.{TaskId}
use Rattle.ciel_look_tasks.specs.CutPlaces.{AreBelow}
use Rattle.ciel_look_tasks.specs.SceneView.{picked}
use Rattle.ciel_look_tasks.specs.declared.scene.Loss.{Loss}

module _ {A : Type 0} (test : A → Bool) where
  -- where those stand that pass a test, the first one at this place
  abbrev pub places_where : (at : ℕ) → List A → List ℕ
  places_where at [] = []
  places_where at (x ∷ xs) = cond (test x) (at ∷ places_where (suc at) xs) (places_where (suc at) xs)

  -- what was looked at passes
  abbrev pub passes : Option A → Bool
  passes None = false
  passes (Some x) = test x

  abbrev pub if_passes : (place : ℕ) → Option A → List ℕ
  if_passes i o = cond (passes o) (i ∷ []) []

-- the tasks whose stacks a loss took, by those of all
abbrev pub stacks_of : List TaskId → Loss → List TaskId
stacks_of us l = picked us l.stacks.items

abbrev pub stacks_view : List TaskId → List Loss → List (List TaskId)
stacks_view us ls = map (stacks_of us) ls

-- how many each took
abbrev pub stack_count : Loss → ℕ
stack_count l = length l.stacks.items

abbrev pub stack_counts : List Loss → List ℕ
stack_counts ls = map stack_count ls

-- each stands at a place below
abbrev pub HaveStacks : ℕ → List Loss → Type 0
HaveStacks n [] = Unit {0}
HaveStacks n (l ∷ ls) = AreBelow n l.stacks.items × HaveStacks n ls

-- Lists whose items have names.
use Rattle.std.specs.Prelude.{ℕ, suc, List, [], ◌∷◌, cond, map, Option, Some, None}
use Rattle.std.specs.Option.{option_map}
use Rattle.std.specs.List.{IsDistinct}
use Rattle.sky_base.specs.Val.{same_text}

module _ {X : Type 0} (name : X → List ℕ) where
  -- the first item with the name
  abbrev pub found : List ℕ → List X → Option X
  found n [] = None
  found n (x ∷ xs) = cond (same_text n (name x)) (Some x) (found n xs)

  -- its place
  abbrev pub place_of : List ℕ → List X → Option ℕ
  place_of n [] = None
  place_of n (x ∷ xs) = cond (same_text n (name x)) (Some 0) (option_map suc (place_of n xs))

  -- the list with that item changed
  abbrev pub changed : (X → X) → List ℕ → List X → List X
  changed f n [] = []
  changed f n (x ∷ xs) = cond (same_text n (name x)) (f x ∷ xs) (x ∷ changed f n xs)

  -- no name stands twice
  abbrev pub IsOnce : List X → Type 0
  IsOnce xs = IsDistinct same_text (map name xs)

-- What a finder of objects tells of what it was asked for.
use Rattle.std.specs.Prelude.{ℕ, List, [], ◌∷◌}
use Rattle.sky_base.specs.Name.{held_name}
use Rattle.sky_base.specs.Val.{Desc}

-- what it tells after the names of these were asked for, one after another, where this is what one name more makes of what it tells
abbrev pub told_after : {T : Type 0} → (T → List ℕ → T) → T → List (Desc (List ℕ)) → T
told_after notes t [] = t
told_after notes t (d ∷ ds) = told_after notes (notes t (held_name d)) ds

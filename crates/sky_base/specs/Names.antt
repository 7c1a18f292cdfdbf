-- Lists of names, and the names in a value.
use Rattle.std.specs.Prelude.{ℕ, List, [], ◌∷◌, ◌++◌, Bool, true, false, ◌||◌}
use Rattle.sky_base.specs.Val.{Desc, known, same_text, stands_in}

-- whether a name is in a list
abbrev pub is_among : List ℕ → List (List ℕ) → Bool
is_among n [] = false
is_among n (m ∷ ms) = same_text n m || is_among n ms

-- the descriptions that a value with names holds in place of these names
abbrev pub known_of : List (List ℕ) → List (Desc (List ℕ))
known_of [] = []
known_of (n ∷ ns) = known n ∷ known_of ns

-- the list with a description at its end, unless that was in it
abbrev pub with_new : Bool → List (Desc (List ℕ)) → Desc (List ℕ) → List (Desc (List ℕ))
with_new true ds d = ds
with_new false ds d = ds ++ (d ∷ [])

-- the list, and then each further description at its first place
abbrev pub gathered : List (Desc (List ℕ)) → List (Desc (List ℕ)) → List (Desc (List ℕ))
gathered ds [] = ds
gathered ds (e ∷ es) = gathered (with_new (stands_in same_text e ds) ds e) es

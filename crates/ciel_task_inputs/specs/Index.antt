-- How a name is added to a map of places.
use Rattle.std.specs.Prelude.{◌≡◌, ℕ, List, Option, Some, None}
use Rattle.std.specs.BTreeMap.{BTreeMap, Updates, get}
use Rattle.sky_base.specs.NameOrder.{name_cmp}

-- where it had no place it has this one
abbrev pub AddedIf : Option ℕ → BTreeMap (List ℕ) ℕ → List ℕ → ℕ → BTreeMap (List ℕ) ℕ → Type 0
AddedIf None old n i new = Updates name_cmp old new n (Some i)
AddedIf (Some j) old n i new = new ≡ old

abbrev pub Added : BTreeMap (List ℕ) ℕ → List ℕ → ℕ → BTreeMap (List ℕ) ℕ → Type 0
Added old n i new = AddedIf (get name_cmp old n) old n i new

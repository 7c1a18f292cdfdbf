-- The objects that are given for names.
use Rattle.std.specs.Prelude.{◌≡◌, ℕ, suc, List, [], ◌∷◌, Bool, true, false, cond, Option, Some, None}
use Rattle.std.specs.Option.{option_map}
use Rattle.std.specs.BTreeMap.{BTreeMap, get}
use Rattle.std.specs.Coded.{Coded, coded_list, coded×}
use Rattle.sky_base.specs.NameOrder.{name_cmp}
use Rattle.sky_base.specs.Val.{same_text, same_desc}
use Rattle.sky_base_known.specs.Known.{object_coded}
use Rattle.sky_base_known.specs.RowCode.{rows_code}
use Rattle.sky_base_known.specs.Walk.{Obj, Row}

-- the object at the place of the first of these references that is d
abbrev pub given_for : List Row → List Obj → Row → Option Obj
given_for [] os d = None
given_for (e ∷ es) [] d = None
given_for (e ∷ es) (o ∷ os) d = cond (same_desc same_text d e) (Some o) (given_for es os d)

-- ---- how they are found

-- the place of the first of these names that is x
abbrev pub name_place : List ℕ → List (List ℕ) → Option ℕ
name_place x [] = None
name_place x (n ∷ ns) = cond (same_text x n) (Some 0) (option_map suc (name_place x ns))

abbrev pub place_at : BTreeMap (List ℕ) ℕ → List ℕ → Option ℕ
place_at places x = get name_cmp places x

-- what stood before, else this place where it is one of the name
abbrev pub or_here : Option ℕ → Bool → ℕ → Option ℕ
or_here (Some i) b place = Some i
or_here None true place = Some place
or_here None false place = None

-- each name has its first place
abbrev pub FindsEach : BTreeMap (List ℕ) ℕ → List (List ℕ) → Type 0
FindsEach places ns = (x : List ℕ) → place_at places x ≡ name_place x ns

-- a code for references with objects, by which a proof tells them apart
abbrev pub given_code : Coded (List Row × List Obj)
given_code = coded× rows_code (coded_list object_coded)

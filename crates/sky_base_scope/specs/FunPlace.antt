-- The place of a function among those of a script.
use Rattle.std.specs.Prelude.{◌≡◌, ℕ, suc, List, [], ◌∷◌, Bool, true, false, Option, Some, None}
use Rattle.std.specs.Option.{option_map}
use Rattle.std.specs.Ordering.{is_eq, nat_cmp}
use Rattle.std.specs.Cmp.Lexicographic.{slice_cmp}
use Rattle.std.specs.Map.{lookup}
use Rattle.sky_base.specs.Val.{same_text}
use Rattle.sky_base.specs.Tree.{FunDef}

abbrev pub place_if : Bool → Option ℕ → Option ℕ
place_if true i = Some 0
place_if false i = option_map suc i

-- the place of the first function of this name
abbrev pub fun_place : List ℕ → List FunDef → Option ℕ
fun_place x [] = None
fun_place x (f ∷ fs) = place_if (same_text x f.name) (fun_place x fs)

-- the place that stands beside a name
abbrev pub place_at : List (List ℕ × ℕ) → List ℕ → Option ℕ
place_at places x = lookup (λ n. is_eq (slice_cmp nat_cmp x n)) places

-- what stood before, else this place where it is one of the name
abbrev pub or_here : Option ℕ → Bool → ℕ → Option ℕ
or_here (Some i) b place = Some i
or_here None true place = Some place
or_here None false place = None

-- each name has the place of its first function
abbrev pub FindsEach : List (List ℕ × ℕ) → List FunDef → Type 0
FindsEach places funs = (x : List ℕ) → place_at places x ≡ fun_place x funs

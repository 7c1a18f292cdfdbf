-- Descriptions by their numbers: each name is the number of a description among those that are held.
use Rattle.std.specs.Prelude.{◌≡◌, ◌≤◌, ℕ, zero, suc, List, [], ◌∷◌, ◌++◌, length, Bool, true, false}
use Rattle.sky_base.specs.Val.{known, same_text, same_desc}
use Rattle.sky_base.specs.Op.{Answer}
use Rattle.sky_base.specs.Tree.{Script}
use Rattle.sky_base.specs.Eval.{World}
use Rattle.sky_base.specs.See.{slot}
use Rattle.ciel_json.specs.Tasks.{Apart}
use Rattle.sky_base_known.specs.Walk.{Row, most_rows}

abbrev pub index_if : Bool → ℕ → ℕ
index_if true i = zero
index_if false i = suc i

-- the place of a description in a list; behind its end where it isn't there
abbrev pub index_of : Row → List Row → ℕ
index_of d [] = zero
index_of d (r ∷ rs) = index_if (same_desc same_text d r) (index_of d rs)

abbrev pub tag_of : List Row → Row → List ℕ
tag_of rows d = slot (index_of d rows)

-- a reference to a new description has its number
abbrev pub numbered : List Row → (List ℕ → Answer (List ℕ)) → Script → World (List ℕ)
numbered rows reads script =
    record { make = λ d. known (tag_of rows d); reads = reads; script = script }

-- the descriptions that are held later
pub record Grown (rows later : List Row) : Type 0 where
  pub more : List Row
  pub begins : later ≡ rows ++ more
  pub apart : Apart later
  pub room : length later ≤ most_rows

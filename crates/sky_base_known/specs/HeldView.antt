-- What the rows of the code stand for.
use Rattle.std.specs.Prelude.{ℕ, List, map, Option}
use Rattle.std.specs.Ordering.{nat_cmp}
use Rattle.std.specs.BTreeMap.{BTreeMap, get}
use Rattle.sky_base.specs.ObjectView.{desc_view}
use Rattle.sky_base_known.specs.Walk.{Row}
use Rattle.sky_base_known.specs.Sums.{sum_of}
use Rattle.sky_base_known.specs.Latest.{IsIndex}
use Rattle.sky_base_known.specs.declared.rows.Held.{Held}

abbrev pub row_of : Held → Row
row_of h = desc_view h.desc

abbrev pub rows_of : List Held → List Row
rows_of hs = map row_of hs

abbrev pub earlier_of : List Held → List (Option ℕ)
earlier_of hs = map (λ h. h.earlier) hs

-- whether the map has the last place of each sum, and each row the last place before it with its sum
abbrev pub Finds : BTreeMap ℕ ℕ → List Held → Type 0
Finds latest hs = IsIndex (map sum_of (rows_of hs)) (earlier_of hs) (get nat_cmp latest)

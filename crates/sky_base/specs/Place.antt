-- Where a key stands among pairs.
use Rattle.std.specs.Prelude.{◌≡◌, ℕ, ◌<◌, ◌≤◌, List, length, Result, Ok, Err, slice_index_or}
use Rattle.std.specs.Ordering.{nat_cmp}
use Rattle.std.specs.Cmp.Lexicographic.{slice_cmp}
use Rattle.std.specs.declared.cmp.Ordering.{Ordering}
use Rattle.sky_base.specs.declared.value.Pair.{Pair}

-- each key before a place is below this one
abbrev pub Passed : List Pair → List ℕ → ℕ → Type 0
Passed ps k i = (j : ℕ) (d : Pair) → j < i → slice_cmp nat_cmp k (slice_index_or ps j d).key ≡ Ordering.Greater

abbrev pub IsPlace : Result ℕ ℕ → List Pair → List ℕ → Type 0
IsPlace (Ok i) ps k = (i < length ps) × Passed ps k i × ((d : Pair) → slice_cmp nat_cmp k (slice_index_or ps i d).key ≡ Ordering.Equal)
IsPlace (Err i) ps k = (i ≤ length ps) × Passed ps k i
    × ((d : Pair) → i < length ps → slice_cmp nat_cmp k (slice_index_or ps i d).key ≡ Ordering.Less)

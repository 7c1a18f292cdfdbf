-- Keys in the order of their bytes.
use Rattle.std.specs.Prelude.{◌≡◌, ◌≢◌, ◌<◌, ℕ, List, [], length, slice_index_or}
use Rattle.std.specs.Ordering.{nat_cmp}
use Rattle.std.specs.Cmp.Lexicographic.{slice_cmp}
use Rattle.std.specs.declared.cmp.Ordering.{Ordering}

abbrev pub at : List (List ℕ) → ℕ → List ℕ
at ks i = slice_index_or ks i []

-- each key is below those behind it
abbrev pub Rises : List (List ℕ) → Type 0
Rises ks = (i j : ℕ) → i < j → j < length ks → slice_cmp nat_cmp (at ks i) (at ks j) ≡ Ordering.Less

-- no key is this one
abbrev pub Lacks : List (List ℕ) → List ℕ → Type 0
Lacks ks k = (i : ℕ) → i < length ks → at ks i ≢ k

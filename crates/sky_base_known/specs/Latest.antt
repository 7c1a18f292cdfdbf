-- Where each sum was seen last.
use Rattle.std.specs.Prelude.{◌≡◌, ℕ, ◌≤◌, ◌<◌, List, length, Option, Some, None, slice_get, IfSome}

-- whether a place is the last one, or before it
abbrev pub IsUpTo : Option ℕ → ℕ → Type 0
IsUpTo None i = ⊥
IsUpTo (Some k) i = i ≤ k

-- the last place before `end` at which the sum s stands; none where it stands at no such place
pub record IsLast (sums : List ℕ) (s end : ℕ) (last : Option ℕ) : Type 0 where
  pub there : IfSome last (λ k. (k < end) × (slice_get sums k ≡ Some s))
  pub none_after : (i : ℕ) → i < end → slice_get sums i ≡ Some s → IsUpTo last i

-- what is kept beside the rows: of each sum the last place, and of each place the last one before it
-- with its sum, so that from the last place on each place of the sum is come to
pub record IsIndex (sums : List ℕ) (earlier : List (Option ℕ)) (latest : ℕ → Option ℕ) : Type 0 where
  pub of_sum : (s : ℕ) → IsLast sums s (length sums) (latest s)
  pub of_place : (i s : ℕ) (e : Option ℕ) → slice_get sums i ≡ Some s → slice_get earlier i ≡ Some e → IsLast sums s i e

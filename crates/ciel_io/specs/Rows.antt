-- Rows of bytes that stand one behind the other in one list.
use Rattle.std.specs.Prelude.{◌+◌, ℕ, List, [], ◌∷◌, Bool, bytes_eq, is_some, Option, Some, None, if◌then◌else◌, length, option_map, suc, take, drop}

-- rows of bytes, and the room that they have
pub record HeldRows : Type 0 where
  pub room : ℕ
  pub rows : List (List ℕ)

-- what rows take of the room: their bytes, and one for each
abbrev pub space : List (List ℕ) → ℕ
space [] = 0
space (row ∷ rows) = length row + 1 + space rows

-- the rows of these lengths in the bytes
abbrev pub cut : List ℕ → List ℕ → List (List ℕ)
cut [] bytes = []
cut (n ∷ lengths) bytes = take n bytes ∷ cut lengths (drop n bytes)

-- what these lengths come to
abbrev pub total : List ℕ → ℕ
total [] = 0
total (n ∷ lengths) = n + total lengths

-- the place of the first row that is this one
abbrev pub place_of : List (List ℕ) → List ℕ → Option ℕ
place_of [] row = None
place_of (r ∷ rows) row = if bytes_eq r row then Some 0 else option_map suc (place_of rows row)

-- whether this row is one of them
abbrev pub has_row : List (List ℕ) → List ℕ → Bool
has_row rows row = is_some (place_of rows row)

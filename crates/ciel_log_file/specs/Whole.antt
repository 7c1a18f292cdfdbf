-- What stands whole in a log's file.
use Rattle.std.specs.Prelude.{◌≡◌, ◌⊎◌, ℕ, List, [], ◌∷◌}
use Rattle.ciel_log_read.specs.File.{NoRecordAt, RecordAt}

-- from one place to another these stand there, one behind the other
abbrev pub RecordsTo : List ℕ → ℕ → List (List ℕ) → ℕ → Type 0
RecordsTo log at [] to = at ≡ to
RecordsTo log at (bytes ∷ more) to = (next : ℕ) × RecordAt log at bytes next × RecordsTo log next more to

-- the first record is whole, and is another one
abbrev pub BeginsOther : List ℕ → List ℕ → Type 0
BeginsOther log header = (first : List ℕ) × (next : ℕ) × RecordAt log 0 first next × (first ≡ header → ⊥)

-- the header is cut; or it is followed by these whole records up to this place, where no whole one stands
abbrev pub IsWhole : List ℕ → List ℕ → ℕ → Type 0
IsWhole log header whole =
    (NoRecordAt log 0 × (whole ≡ 0)) ⊎ ((records : List (List ℕ)) × RecordsTo log 0 (header ∷ records) whole × NoRecordAt log whole)

-- behind the header and other records a whole one begins there
abbrev pub BeginsAt : List ℕ → List ℕ → ℕ → Type 0
BeginsAt log header at =
    (records : List (List ℕ)) × RecordsTo log 0 (header ∷ records) at × (bytes : List ℕ) × (next : ℕ) × RecordAt log at bytes next

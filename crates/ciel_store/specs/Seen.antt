-- What contracts see of seats, shelves and places.
use Rattle.std.specs.Prelude.{ℕ, Bool, false, List, [], ◌∷◌, ◌++◌, ◌==◌, ◌||◌, ◌<◌, if◌then◌else◌, length, slice_index_or}
use Rattle.atomic_table.specs.Seated.{TableId}
use Rattle.boxcar.specs.Table.{Shelves, Where, Shows}
use Rattle.ciel_store.specs.declared.loss.Loss.{Loss}

-- which words it is a seat at, and the losses that it has marked or seen
pub record SeatSeen : Type 0 where
  pub of : TableId
  pub losses : List Loss

abbrev pub is_lost : List Loss → ℕ → Bool
is_lost [] w = false
is_lost (l ∷ ls) w = (l.worker == w) || is_lost ls w

-- the list after a loss was marked
abbrev pub marked : List Loss → Loss → List Loss
marked ls l = if is_lost ls l.worker then ls else ls ++ l ∷ []

-- which words, and each worker's row
pub record ShelvesSeen : Type 0 where
  pub of : TableId
  pub rows : List Shelves

-- the worker, and what shows the block in the worker's row
pub record PlaceSeen (B : Type 0) : Type 0 where
  pub worker : ℕ
  pub at : Where B

abbrev pub no_row : Shelves
no_row = record { tag = []; buckets = [] }

abbrev pub IsPlaceOf : {B : Type 0} → ShelvesSeen → PlaceSeen B → Type 0
IsPlaceOf s p = (p.worker < length s.rows) × Shows (slice_index_or s.rows p.worker no_row) p.at

-- A flag for each worker, by its number.
use Rattle.std.specs.Prelude.{◌≡◌, ◌<◌, ℕ, List, Bool, false, length, nat_eq, ◌||◌, get_or}
use Rattle.std.specs.List.{list_any}

-- the flags of these workers are set, the others are as they were
pub record Sets (workers : List ℕ) (old new : List Bool) : Type 0 where
  pub long : length new ≡ length old
  pub each : (w : ℕ) → w < length old → get_or new w false ≡ (list_any (nat_eq w) workers || get_or old w false)

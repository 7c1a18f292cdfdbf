-- Bytes of which the first 61 are kept.
use Rattle.std.specs.Prelude.{◌≡◌, ℕ, List, ◌++◌, take}

-- these bytes were put behind the old ones: whatever is put then, the same is kept
pub record Puts (old bytes new : List ℕ) : Type 0 where
  pub kept : (more : List ℕ) → take 61 (new ++ more) ≡ take 61 (old ++ (bytes ++ more))

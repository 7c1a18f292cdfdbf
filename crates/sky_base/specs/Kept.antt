-- The limits of values.
use Rattle.std.specs.Prelude.{◌≤◌}
use Rattle.sky_base.specs.Val.{Val, size, depth, most_depth, most_size}

-- a value within the limits of depth and size
pub record Kept {N : Type 0} (v : Val N) : Type 0 where
  pub deep : depth v ≤ most_depth
  pub large : size v ≤ most_size

-- What is kept beside a list, so that its size and its depth are known at once.
use Rattle.std.specs.Prelude.{◌≡◌, ℕ, ◌-◌, ◌^◌, min}
use Rattle.sky_base.specs.declared.value.Total.{Total}

-- a size and a depth, each up to the greatest number of its type
pub record Totals (size depth : ℕ) (t : Total) : Type 0 where
  pub size_is : t.size ≡ min size (2 ^ 64 - 1)
  pub depth_is : t.depth ≡ min depth (2 ^ 32 - 1)

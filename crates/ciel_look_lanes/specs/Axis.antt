-- The places of what happened, from left to right, and of the lanes, one below the other.
use Rattle.std.specs.Prelude.{ℕ, ◌+◌, ◌*◌, ◌/◌, min}

-- how wide so many things are together
abbrev pub wide : ℕ → ℕ
wide ends = min (ends * 46) 10200

-- where what happened at this place stands, of so many things and the end behind them
abbrev pub x_of : (count at : ℕ) → ℕ
x_of count at = 90 + min at (count + 1) * wide (count + 1) / (count + 1)

-- workers with high numbers share the last lane
abbrev pub lane_of : ℕ → ℕ
lane_of worker = min worker 64

-- the upper end of a lane
abbrev pub lane_top : ℕ → ℕ
lane_top lane = 70 + lane * 46

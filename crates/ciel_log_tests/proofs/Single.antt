-- One name alone.
use Rattle.std.proofs.Common.{ℕ, List, [], ◌∷◌}
use Rattle.std.specs.List.{IsDistinct}
use Rattle.sky_base.specs.Val.{same_text}

pub alone : (n : List ℕ) → IsDistinct same_text (n ∷ [])
unfolding IsDistinct
alone n = (tt, tt)

-- How many elements a `for` under way has taken.
use Rattle.std.specs.Prelude.{◌≤◌, List, [], ◌∷◌}
use Rattle.sky_base.specs.Val.{count}
use Rattle.sky_base.specs.Res.{Entry, for_body}

module _ {N : Type 0} where
  -- no more than its list has
  abbrev pub TakenIn : Entry N → Type 0
  TakenIn (for_body n m t p x vs b) = t ≤ count vs
  TakenIn _ = Unit {0}

  abbrev pub AllTaken : List (Entry N) → Type 0
  AllTaken [] = Unit {0}
  AllTaken (en ∷ fr) = TakenIn en × AllTaken fr

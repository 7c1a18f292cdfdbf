-- Text that is put, safe to show.
use Rattle.std.specs.Prelude.{◌≡◌, ℕ, List, [], ◌∷◌, ◌++◌, Bool, true, false, ◌&&◌, cond}
use Rattle.ciel_look_shown.specs.Plain.{shown}
use Rattle.ciel_look_text.specs.Words.{led}

-- these bytes were put behind the old ones, as they are shown
pub record Says (old bytes new : List ℕ) : Type 0 where
  pub said : new ≡ old ++ shown bytes

abbrev pub are_none : List (List ℕ) → Bool
are_none [] = true
are_none (p ∷ ps) = false

-- these were put, the first behind `lead` where nothing was put so far, each other behind `more`; and whether nothing was put so far
pub record SaysSome (lead more : List ℕ) (first : Bool) (old : List ℕ) (xs : List (List ℕ)) (new : List ℕ) (none : Bool) : Type 0 where
  pub put : Says old (led (cond first lead more) more xs) new
  pub empty : none ≡ (first && are_none xs)

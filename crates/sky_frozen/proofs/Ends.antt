-- The frames of a stack, and the top one.
use Rattle.std.proofs.Common.{List, [], ◌∷◌, ◌++◌}
use Rattle.sky_base_law.specs.Tasks.{Each}
use Rattle.sky_state.specs.Fits.{Last, Before}

module _ {A : Type 0} (P : A → Type 0) where
  pub each_before : (xs : List A) (x : A) → Each P xs → Before P (xs ++ x ∷ [])
  each_before [] x h = tt
  each_before (a ∷ []) x h = (h.0, tt)
  each_before (a ∷ b ∷ bs) x h = (h.0, each_before (b ∷ bs) x h.1)

  pub before_each : (xs : List A) (x : A) → Before P (xs ++ x ∷ []) → Each P xs
  before_each [] x h = tt
  before_each (a ∷ []) x h = (h.0, tt)
  before_each (a ∷ b ∷ bs) x h = (h.0, before_each (b ∷ bs) x h.1)

  pub to_last : (xs : List A) (x : A) → P x → Last P (xs ++ x ∷ [])
  to_last [] x h = h
  to_last (a ∷ []) x h = h
  to_last (a ∷ b ∷ bs) x h = to_last (b ∷ bs) x h

  pub of_last : (xs : List A) (x : A) → Last P (xs ++ x ∷ []) → P x
  of_last [] x h = h
  of_last (a ∷ []) x h = h
  of_last (a ∷ b ∷ bs) x h = of_last (b ∷ bs) x h

-- One more object under a number.
use Rattle.std.proofs.Common.{◌≡◌, ◌≢◌, ◌≤◌, ◌<◌, ℕ, zero, suc, List, [], ◌∷◌, length, true, Option, Some, None, ◌⊎◌, inl, inr, refl, ap, arith}
use Rattle.sky_base_known.specs.Walk.{Obj, object_at, is_known}
use Rattle.sky_base_known.specs.Known.{with_object}

pub length_with : (k m : ℕ) (o : Obj) (os : List (Option Obj)) → k < m → length os ≤ m → length (with_object k o os) ≤ m
length_with zero m o [] h l = omega (arith, h)
length_with zero m o (x ∷ os) h l = l
length_with (suc k) zero o os h l = absurd (omega (arith, h))
length_with (suc k) (suc m) o [] h l =
    let g : length (with_object k o []) ≤ m = length_with k m o [] (omega (arith, h)) (omega arith) in omega (arith, g)
length_with (suc k) (suc m) o (x ∷ os) h l =
    let g : length (with_object k o os) ≤ m = length_with k m o os (omega (arith, h)) (omega (arith, l)) in omega (arith, g)

pub with_here : (k : ℕ) (o : Obj) (os : List (Option Obj)) → object_at (with_object k o os) k ≡ Some o
with_here zero o [] = refl
with_here zero o (x ∷ os) = refl
with_here (suc k) o [] = with_here k o []
with_here (suc k) o (x ∷ os) = with_here k o os

pub with_there : (k i : ℕ) (o : Obj) (os : List (Option Obj)) → i ≢ k → object_at (with_object k o os) i ≡ object_at os i
with_there zero zero o os h = absurd (h refl)
with_there zero (suc i) o [] h = refl
with_there zero (suc i) o (x ∷ os) h = refl
with_there (suc k) zero o [] h = refl
with_there (suc k) zero o (x ∷ os) h = refl
with_there (suc k) (suc i) o [] h = with_there k i o [] (λ e. h (ap suc e))
with_there (suc k) (suc i) o (x ∷ os) h = with_there k i o os (λ e. h (ap suc e))

pub nat_same : (a b : ℕ) → (a ≡ b) ⊎ (a ≡ b → ⊥)
nat_same zero zero = inl refl
nat_same zero (suc b) = inr (λ e. absurd cc)
nat_same (suc a) zero = inr (λ e. absurd cc)
nat_same (suc a) (suc b) = go (nat_same a b)
  where
    go : (a ≡ b) ⊎ (a ≡ b → ⊥) → (suc a ≡ suc b) ⊎ (suc a ≡ suc b → ⊥)
    go (inl e) = inl (ap suc e)
    go (inr n) = inr (λ e. n cc)

-- what is known has an object
pub known_some : (x : Option Obj) → is_known x ≡ true → (o : Obj) × (x ≡ Some o)
known_some None e = absurd cc
known_some (Some o) e = (o, refl)

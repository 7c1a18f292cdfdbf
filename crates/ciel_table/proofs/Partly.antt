-- A list whose first items are changed.
use Rattle.std.proofs.Common.{◌≡◌, ℕ, zero, suc, ◌<◌, ◌≤◌, List, [], ◌∷◌, map, length, get_or, set, refl, ap, ◌∙◌, arith}

module _ {X : Type 0} (f : X → X) where
  -- the first so many are changed
  abbrev pub partly : ℕ → List X → List X
  partly zero xs = xs
  partly (suc i) [] = []
  partly (suc i) (x ∷ xs) = f x ∷ partly i xs

  pub partly_step : (xs : List X) (i : ℕ) (d : X) → i < length xs → set (partly i xs) i (f (get_or (partly i xs) i d)) ≡ partly (suc i) xs
  partly_step [] i d l = absurd (omega (arith, l))
  partly_step (x ∷ xs) zero d l = refl
  partly_step (x ∷ xs) (suc i) d l = ap (λ ys. f x ∷ ys) (partly_step xs i d (omega (arith, l)))

  pub partly_all : (xs : List X) (i : ℕ) → length xs ≤ i → partly i xs ≡ map f xs
  partly_all [] zero l = refl
  partly_all [] (suc i) l = refl
  partly_all (x ∷ xs) zero l = absurd (omega (arith, l))
  partly_all (x ∷ xs) (suc i) l = ap (λ ys. f x ∷ ys) (partly_all xs i (omega (arith, l)))

  -- one more item changed
  pub partly_next : (xs ys : List X) (i : ℕ) (x y : X) → ys ≡ partly i xs → x ≡ get_or ys i x → y ≡ f x → i < length xs → set ys i y
      ≡ partly (suc i) xs
  partly_next xs ys i x y e s h l =
      ap (set ys i) (h ∙ ap f s) ∙ (ap (λ zs. set zs i (f (get_or zs i x))) e ∙ partly_step xs i x l)

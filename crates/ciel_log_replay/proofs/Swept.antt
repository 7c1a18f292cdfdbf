-- A list that is changed from its front on.
use Rattle.std.proofs.Common.{◌≡◌, ℕ, zero, suc, ◌≤◌, ◌<◌, List, [], ◌∷◌, length, map, refl, ap, arith, slice_index_or, slice_set}

-- the first so many are changed
abbrev pub swept : {A : Type 0} → (A → A) → ℕ → List A → List A
swept f zero xs = xs
swept f (suc i) [] = []
swept f (suc i) (x ∷ xs) = f x ∷ swept f i xs

pub swept_all : {A : Type 0} (f : A → A) (i : ℕ) (xs : List A) → length xs ≤ i → swept f i xs ≡ map f xs
swept_all f zero [] l = refl
swept_all f zero (x ∷ xs) l = absurd (omega (arith, l))
swept_all f (suc i) [] l = refl
swept_all f (suc i) (x ∷ xs) l = ap (λ z. f x ∷ z) (swept_all f i xs (omega (arith, l)))

-- the next one is changed
pub swept_next : {A : Type 0} (f : A → A) (i : ℕ) (xs : List A) (d : A) → i < length xs
    → slice_set (swept f i xs) i (f (slice_index_or (swept f i xs) i d)) ≡ swept f (suc i) xs
swept_next f i [] d l = absurd (omega (arith, l))
swept_next f zero (x ∷ xs) d l = refl
swept_next f (suc i) (x ∷ xs) d l = ap (λ z. f x ∷ z) (swept_next f i xs d (omega (arith, l)))

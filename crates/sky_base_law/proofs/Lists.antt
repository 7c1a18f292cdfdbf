-- Lemmas on lists, options and numbers that many proofs cite.
use Rattle.std.proofs.Common.{◌≡◌, ℕ, zero, suc, List, [], ◌∷◌, ◌++◌, Some, None, length, ap, ◌+◌, ◌≤◌, ◌<◌, ◌⊎◌, inl, inr, arith}
use Rattle.sky_base_law.specs.Tasks.{Each}

pub some_is : {A : Type 0} (a b : A) → Some a ≡ Some b → a ≡ b
some_is a b e = cc

pub none_some : {A : Type 0} (a : A) → None ≡ Some a → ⊥
none_some a e = cc

pub each_both : {A : Type 0} (P : A → Type 0) (xs ys : List A) → Each P xs → Each P ys → Each P (xs ++ ys)
each_both P [] ys h i = i
each_both P (x ∷ xs) ys h i = (h.0, each_both P xs ys h.1 i)

pub length_push : {A : Type 0} (xs : List A) (x : A) (i : ℕ) → length xs ≡ i → length (xs ++ x ∷ []) ≡ suc i
length_push [] x i e = ap suc e
length_push (y ∷ xs) x zero e = absurd (omega (arith, e))
length_push (y ∷ xs) x (suc i) e = ap suc (length_push xs x i (omega (arith, e)))

pub up_two : (k i : ℕ) → k ≡ suc (suc i) → k + 1 ≡ suc (suc (suc i))
up_two k i e = omega (arith, e)

-- the first is above the second, or not
pub above_or : (a b : ℕ) → (a ≤ b) ⊎ (b < a)
above_or zero b = inl (omega arith)
above_or (suc a) zero = inr (omega arith)
above_or (suc a) (suc b) = go (above_or a b)
  where
    go : (a ≤ b) ⊎ (b < a) → (suc a ≤ suc b) ⊎ (suc b < suc a)
    go (inl h) = inl (omega (arith, h))
    go (inr h) = inr (omega (arith, h))

-- what is not above is below or the same
pub below_or_same : (i j : ℕ) → i ≤ j → (i < j) ⊎ (i ≡ j)
below_or_same i j le = go (above_or j i)
  where
    go : (j ≤ i) ⊎ (i < j) → (i < j) ⊎ (i ≡ j)
    go (inl h) = inr (omega (arith, le, h))
    go (inr h) = inl h

-- A walk over the parts of a form, as far as it goes.
use Rattle.std.proofs.Common.{◌≡◌, ◌≤◌, ◌⊎◌, inl, inr, ℕ, zero, suc, sym, ap, ◌∙◌, arith}
use Rattle.sky_base_law.specs.Opened.{times}

at_most : (i k : ℕ) → i ≤ suc k → (i ≤ k) ⊎ (i ≡ suc k)
at_most zero k h = inl (omega arith)
at_most (suc i) zero h = inr (omega (arith, h))
at_most (suc i) (suc k) h = more (at_most i k (omega (arith, h)))
  where
    more : (i ≤ k) ⊎ (i ≡ suc k) → (suc i ≤ suc k) ⊎ (suc i ≡ suc (suc k))
    more (inl g) = inl (omega (arith, g))
    more (inr e) = inr (ap suc e)

-- where a step leads nowhere else, more steps don't either
pub times_stay : {A : Type 0} (f : A → A) (x y : A) (i k : ℕ) → times f i x ≡ y → f y ≡ y → i ≤ k → times f k x ≡ y
times_stay f x y i zero e g h = let z : 0 ≡ i = omega (arith, h) in ap (λ n. times f n x) z ∙ e
times_stay {A = A} f x y i (suc k) e g h = go (at_most i k h) (λ l. times_stay f x y i k e g l)
  where
    go : (i ≤ k) ⊎ (i ≡ suc k) → (i ≤ k → times f k x ≡ y) → times f (suc k) x ≡ y
    go (inl l) again = ap f (again l) ∙ g
    go (inr z) again = ap (λ n. times f n x) (sym z) ∙ e

-- so many steps
pub times_all : {A : Type 0} (f : A → A) (x y : A) (i k : ℕ) → times f i x ≡ y → k ≤ i → i ≤ k → times f k x ≡ y
times_all f x y i k e g h = let z : k ≡ i = omega (arith, g, h) in ap (λ n. times f n x) z ∙ e

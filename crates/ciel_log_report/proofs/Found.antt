-- The order of a number in a list by workers.
use Rattle.std.proofs.Common.{◌≡◌, ◌<◌, ◌≤◌, ◌+◌, ℕ, zero, suc, List, [], ◌∷◌, length, Option, Some, None, slice_index_or, slice_set, sym, ◌∙◌, subst, arith, below_more}
use Rattle.ciel_task_crew.specs.Crews.{order_at}
use Rattle.ciel_task_order.specs.declared.order.Order.{Order}

pub at_below : (out : List (Option Order)) (w : ℕ) (x : Order) → order_at out w ≡ Some x → w < length out
at_below [] w x e = cc
at_below (o ∷ os) zero x e = omega arith
at_below (o ∷ os) (suc w) x e = let l = at_below os w x e in omega (arith, l)

-- what another worker has stays
pub set_none : (out : List (Option Order)) (w u : ℕ) (o : Order) → order_at (slice_set out w None) u ≡ Some o → (u ≡ w → ⊥) × (order_at out u ≡ Some o)
set_none [] w u o e = cc
set_none (x ∷ xs) zero zero o e = cc
set_none (x ∷ xs) zero (suc u) o e = (λ q. absurd (omega (arith, q)), e)
set_none (x ∷ xs) (suc w) zero o e = (λ q. absurd (omega (arith, q)), e)
set_none (x ∷ xs) (suc w) (suc u) o e = let r = set_none xs w u o e in (λ q. r.0 (omega (arith, q)), r.1)

-- what stands at a place
pub at_item : (out : List (Option Order)) (i : ℕ) (o : Option Order) → i < length out → o ≡ slice_index_or out i o → order_at out i ≡ o
at_item [] i o l e = absurd (omega (arith, l))
at_item (x ∷ xs) zero o l e = sym e
at_item (x ∷ xs) (suc i) o l e = at_item xs i o (omega (arith, l)) e

-- ---- none so far

abbrev pub NoneBefore : List (Option Order) → ℕ → ℕ → Type 0
NoneBefore out number i = (w : ℕ) → w < i → (y : Order) → order_at out w ≡ Some y → y.number ≡ number → ⊥

pub none_first : (out : List (Option Order)) (number : ℕ) → NoneBefore out number 0
none_first out number w l y e q = absurd (omega (arith, l))

none_next : (out : List (Option Order)) (number i : ℕ) → ((y : Order) → order_at out i ≡ Some y → y.number ≡ number → ⊥)
    → NoneBefore out number i → NoneBefore out number (i + 1)
none_next out number i other before = below_more (λ w. (y : Order) → order_at out w ≡ Some y → y.number ≡ number → ⊥) i before other

pub none_free : (out : List (Option Order)) (number i : ℕ) → order_at out i ≡ None → NoneBefore out number i → NoneBefore out number (i + 1)
none_free out number i free = none_next out number i (λ y q n. let bad : None ≡ Some y = sym free ∙ q in cc)

pub none_other : (out : List (Option Order)) (number i : ℕ) (x : Order) → order_at out i ≡ Some x → (x.number ≡ number → ⊥) → NoneBefore out number i
    → NoneBefore out number (i + 1)
none_other out number i x is other =
    none_next out number i
    (λ y q n. let same : x ≡ y = one_of x y (sym is ∙ q) in other (subst (λ (z : Order). z.number ≡ number) (sym same) n))
  where
    one_of : (x y : Order) → Some x ≡ Some y → x ≡ y
    one_of x y e = cc

pub none_all : (out : List (Option Order)) (number i : ℕ) → NoneBefore out number i → length out ≤ i → (w : ℕ) (y : Order) → order_at out w ≡ Some y
    → y.number ≡ number → ⊥
none_all out number i before l w y e q = let b = at_below out w y e in before w (omega (arith, l, b)) y e q

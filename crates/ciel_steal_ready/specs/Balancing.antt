-- Each step keeps the balance.
use Rattle.std.proofs.Common.{◌≡◌, ℕ, zero, suc, ◌+◌, List, [], ◌∷◌, ◌++◌, set, sym, refl, ap, arith}
use mathlib.Core.Option.{some, some-injective, some-ne-none}
use lib.ListN.{get_elem?}
use Rattle.crossbeam_deque.specs.Tasks.{Pushes, Takes, Admits, Finds}
use Rattle.ciel_steal_ready.specs.declared.rule.Hand.{Hand}
use Rattle.ciel_steal_ready.specs.Balance.{idle, has_put, has_taken, weigh, total, Balanced, WasEmpty}

module _ {T : Type 0} where
  pub weigh-append : (h : T → ℕ) (xs ys : List T) → weigh h (xs ++ ys) ≡ weigh h xs + weigh h ys
  weigh-append h [] ys = omega arith
  weigh-append h (x ∷ xs) ys = let i = weigh-append h xs ys in omega arith

  total-set : (f : Hand T → ℕ) (views : List (Hand T)) (port : ℕ) (v w : Hand T) → get_elem? views port ≡ some v
      → total f (set views port w) + f v ≡ total f views + f w
  total-set f [] port v w e = absurd (some-ne-none v (sym e))
  total-set f (x ∷ xs) zero v w e = let same = ap f (some-injective x v e) in omega arith
  total-set f (x ∷ xs) (suc port) v w e = let i = total-set f xs port v w e in omega arith

  total-append : (f : Hand T → ℕ) (xs ys : List (Hand T)) → total f (xs ++ ys) ≡ total f xs + total f ys
  total-append f [] ys = omega arith
  total-append f (x ∷ xs) ys = let i = total-append f xs ys in omega arith

  pub begins : Balanced {T = T} [] (idle ∷ [])
  begins h = refl

  pub puts : (port : ℕ) (v : Hand T) (xs : List T) → Pushes Balanced port v xs (λ w. w ≡ has_put v xs)
  puts port v xs items views b at = (
    has_put v xs,
    (λ h.
        let s = total-set (λ u. weigh h u.put) views port v (has_put v xs) at in
        let t = total-set (λ u. weigh h u.taken) views port v (has_put v xs) at in
        let p = b h in
        omega (arith, weigh-append h v.put xs, weigh-append h items xs)),
    refl,
  )

  pub takes : (port : ℕ) (v : Hand T) (most : ℕ) → Takes Balanced port v most (λ xs w. w ≡ has_taken v xs)
  takes port v most xs items views some_task few b at = (
    has_taken v xs,
    (λ h.
        let s = total-set (λ u. weigh h u.put) views port v (has_taken v xs) at in
        let t = total-set (λ u. weigh h u.taken) views port v (has_taken v xs) at in
        let p = b h in
        omega (arith, weigh-append h v.taken xs, weigh-append h xs items)),
    refl,
  )

  pub admits : Admits {T = T} Balanced idle
  admits items views b h =
      let p = b h in
      omega (arith, total-append (λ u. weigh h u.put) views (idle ∷ []), total-append (λ u. weigh h u.taken) views (idle ∷ []))

  pub finds : (port : ℕ) (v : Hand T) → Finds Balanced port v (WasEmpty v)
  finds port v views b at = (port, views, b, at)

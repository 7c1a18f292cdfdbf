-- How many objects are known, as more become known.
use Rattle.std.proofs.Common.{◌≡◌, ◌≤◌, ◌<◌, ℕ, zero, suc, List, [], ◌∷◌, length, true, false, Option, Some, None, refl, arith}
use Rattle.sky_base_known.specs.Walk.{Obj, object_at, is_known}
use Rattle.sky_base_known.specs.Known.{with_object}
use Rattle.sky_base_exec.proofs.Withs.{with_here, with_there}
use Rattle.sky_plain.specs.Stand.{Puts}
use Rattle.sky_plain.specs.Settle.{count, Stays}

pub count_most : (os : List (Option Obj)) → count os ≤ length os
count_most [] = omega arith
count_most (None ∷ os) = let h : count os ≤ length os = count_most os in omega (arith, h)
count_most (Some o ∷ os) = let h : count os ≤ length os = count_most os in omega (arith, h)

pub count_grow : (xs ys : List (Option Obj)) → Stays xs ys → count xs ≤ count ys
count_grow [] ys s = omega arith
count_grow (None ∷ xs) [] s = count_grow xs [] (λ k e. s (suc k) e)
count_grow (Some o ∷ xs) [] s = absurd (no_more (s zero refl))
  where
    no_more : false ≡ true → ⊥
    no_more e = absurd cc
count_grow (None ∷ xs) (None ∷ ys) s = count_grow xs ys (λ k e. s (suc k) e)
count_grow (None ∷ xs) (Some p ∷ ys) s =
    let h : count xs ≤ count ys = count_grow xs ys (λ k e. s (suc k) e) in omega (arith, h)
count_grow (Some o ∷ xs) (None ∷ ys) s = absurd (no_more (s zero refl))
  where
    no_more : false ≡ true → ⊥
    no_more e = absurd cc
count_grow (Some o ∷ xs) (Some p ∷ ys) s =
    let h : count xs ≤ count ys = count_grow xs ys (λ k e. s (suc k) e) in omega (arith, h)

pub count_less : (k : ℕ) (xs ys : List (Option Obj)) → Stays xs ys → object_at xs k ≡ None → is_known (object_at ys k) ≡ true → count xs < count ys
count_less k xs [] s e f = absurd cc
count_less zero [] (None ∷ ys) s e f = absurd cc
count_less zero [] (Some p ∷ ys) s e f = omega arith
count_less zero (None ∷ xs) (None ∷ ys) s e f = absurd cc
count_less zero (None ∷ xs) (Some p ∷ ys) s e f =
    let h : count xs ≤ count ys = count_grow xs ys (λ k e. s (suc k) e) in omega (arith, h)
count_less zero (Some o ∷ xs) (y ∷ ys) s e f = absurd cc
count_less (suc k) [] (None ∷ ys) s e f = count_less k [] ys (λ i q. absurd cc) refl f
count_less (suc k) [] (Some p ∷ ys) s e f = omega arith
count_less (suc k) (None ∷ xs) (None ∷ ys) s e f = count_less k xs ys (λ i q. s (suc i) q) e f
count_less (suc k) (None ∷ xs) (Some p ∷ ys) s e f =
    let h : count xs < count ys = count_less k xs ys (λ i q. s (suc i) q) e f in omega (arith, h)
count_less (suc k) (Some o ∷ xs) (None ∷ ys) s e f = absurd (no_more (s zero refl))
  where
    no_more : false ≡ true → ⊥
    no_more e = absurd cc
count_less (suc k) (Some o ∷ xs) (Some p ∷ ys) s e f =
    let h : count xs < count ys = count_less k xs ys (λ i q. s (suc i) q) e f in omega (arith, h)

pub puts_with : (k : ℕ) (o : Obj) (os : List (Option Obj)) → Puts os k o (with_object k o os)
puts_with k o os = record { here = with_here k o os; there = λ i h. with_there k i o os h }

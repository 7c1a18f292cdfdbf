-- The tests of two names are the test of their bytes.
use Rattle.std.proofs.Common.{◌≡◌, ℕ, List, length, Bool, true, false, refl, ap, sym, ◌∙◌, subst}
use Rattle.std.specs.Ordering.{nat_cmp, is_eq, ordering_then}
use Rattle.std.specs.Cmp.Lexicographic.{slice_cmp}
use Rattle.std.specs.declared.cmp.Ordering.{Ordering}
use Rattle.std.proofs.lemmas.Cmp.{nat_cmp_total, tied_itself}
use Rattle.sky_base.specs.Val.{same_text}
use Rattle.sky_base.specs.NameOrder.{name_cmp}
use Rattle.sky_base.proofs.Exact.{exact_text, self_text}

then_second : (a b : Ordering) → is_eq (ordering_then a b) ≡ true → is_eq b ≡ true
then_second Ordering.Less b e = cc
then_second Ordering.Equal b e = e
then_second Ordering.Greater b e = cc

pub self_name : (n : List ℕ) → is_eq (name_cmp n n) ≡ true
self_name n = ap (λ o. is_eq (ordering_then o (slice_cmp nat_cmp n n))) (tied_itself nat_cmp_total (length n)) ∙ self_text n

pub bools_alike : (a b : Bool) → (a ≡ true → b ≡ true) → (b ≡ true → a ≡ true) → a ≡ b
bools_alike true true f g = refl
bools_alike true false f g = sym (f refl)
bools_alike false true f g = g refl
bools_alike false false f g = refl

-- names that the map takes for one are one
pub same_test : (k n : List ℕ) → is_eq (name_cmp k n) ≡ same_text n k
same_test k n =
    bools_alike (is_eq (name_cmp k n)) (same_text n k)
    (λ e. subst (λ m. same_text m k ≡ true) (exact_text k n (then_second (nat_cmp (length k) (length n)) (slice_cmp nat_cmp k n) e)) (self_text k))
    (λ e. subst (λ m. is_eq (name_cmp k m) ≡ true) (sym (exact_text n k e)) (self_name k))

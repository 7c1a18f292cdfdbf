-- A search by halves among keys that rise.
use Rattle.std.proofs.Common.{◌≡◌, ◌<◌, ◌≤◌, ◌+◌, ℕ, List, [], ◌∷◌, length, get_or, refl, sym, ◌∙◌, ap, subst, arith, zero, suc, ◌⊎◌, inl, inr}
use Rattle.std.specs.Ordering.{nat_cmp, ordering_reverse}
use Rattle.std.specs.Cmp.Lexicographic.{slice_cmp}
use Rattle.std.specs.declared.cmp.Ordering.{Ordering}
use Rattle.std.proofs.lemmas.Cmp.{nat_list_cmp_total, tied_itself}
use Rattle.std.proofs.lemmas.List.{get_or_default}
use Rattle.ciel_memo_key.specs.Sorted.{Lacks, Rises, at}

abbrev pub cmp : List ℕ → List ℕ → Ordering
cmp a b = slice_cmp nat_cmp a b

-- the key is above those before low, and below those from high on
pub record Between (ks : List (List ℕ)) (q : List ℕ) (low high : ℕ) : Type 0 where
  pub order : low ≤ high
  pub within : high ≤ length ks
  pub above : (i : ℕ) → i < low → cmp q (at ks i) ≡ Ordering.Greater
  pub below : (i : ℕ) → high ≤ i → i < length ks → cmp q (at ks i) ≡ Ordering.Less

pub at_first : (ks : List (List ℕ)) (q : List ℕ) → Between ks q 0 (length ks)
at_first ks q = record {
  order = omega arith;
  within = omega arith;
  above = λ i h. absurd (omega (arith, h));
  below = λ i h g. absurd (omega (arith, h, g));
}

greater_less : (a b : List ℕ) → cmp a b ≡ Ordering.Greater → cmp b a ≡ Ordering.Less
greater_less a b h = nat_list_cmp_total.antisymm b a ∙ ap ordering_reverse h

less_greater : (a b : List ℕ) → cmp a b ≡ Ordering.Less → cmp b a ≡ Ordering.Greater
less_greater a b h = nat_list_cmp_total.antisymm b a ∙ ap ordering_reverse h

same_or_more : (m i : ℕ) → m ≤ i → (i ≡ m) ⊎ (m < i)
same_or_more zero zero h = inl refl
same_or_more zero (suc i) h = inr (omega arith)
same_or_more (suc m) zero h = absurd (omega (arith, h))
same_or_more (suc m) (suc i) h = more (same_or_more m i (omega (arith, h)))
  where
    more : (i ≡ m) ⊎ (m < i) → (suc i ≡ suc m) ⊎ (suc m < suc i)
    more (inl e) = inl (ap suc e)
    more (inr l) = inr (omega (arith, l))

pub before_or : (low i : ℕ) → (i < low) ⊎ (low ≤ i)
before_or zero i = inr (omega arith)
before_or (suc low) zero = inl (omega arith)
before_or (suc low) (suc i) = more (before_or low i)
  where
    more : (i < low) ⊎ (low ≤ i) → (suc i < suc low) ⊎ (suc low ≤ suc i)
    more (inl l) = inl (omega (arith, l))
    more (inr l) = inr (omega (arith, l))

pub goes_down : (ks : List (List ℕ)) (q : List ℕ) (low high m : ℕ) → Rises ks → Between ks q low high → low ≤ m → m < high
    → cmp q (at ks m) ≡ Ordering.Less → Between ks q low m
goes_down ks q low high m r b l h e =
    let small : m < length ks = omega (arith, b.within, h) in
    record {
      order = l;
      within = omega (arith, small);
      above = b.above;
      below = λ i f g. pick i f g (same_or_more m i f);
    }
  where
    pick : (i : ℕ) → m ≤ i → i < length ks → (i ≡ m) ⊎ (m < i) → cmp q (at ks i) ≡ Ordering.Less
    pick i f g (inl s) = subst (λ j. cmp q (at ks j) ≡ Ordering.Less) (sym s) e
    pick i f g (inr s) = nat_list_cmp_total.trans q (at ks m) (at ks i) e (r m i s g)

pub goes_up : (ks : List (List ℕ)) (q : List ℕ) (low high m : ℕ) → Rises ks → Between ks q low high → low ≤ m → m < high
    → cmp q (at ks m) ≡ Ordering.Greater → Between ks q (m + 1) high
goes_up ks q low high m r b l h e =
    let small : m < length ks = omega (arith, b.within, h) in
    record {
      order = omega (arith, h);
      within = b.within;
      above = λ i f. pick i f small (same_or_more i m (omega (arith, f)));
      below = b.below;
    }
  where
    pick : (i : ℕ) → i < m + 1 → m < length ks → (m ≡ i) ⊎ (i < m) → cmp q (at ks i) ≡ Ordering.Greater
    pick i f small (inl s) = subst (λ j. cmp q (at ks j) ≡ Ordering.Greater) s e
    pick i f small (inr s) =
        less_greater (at ks i) q (nat_list_cmp_total.trans (at ks i) (at ks m) q (r i m s small) (greater_less q (at ks m) e))

pub none_left : (ks : List (List ℕ)) (q : List ℕ) (low high : ℕ) → Between ks q low high → high ≤ low → Lacks ks q
none_left ks q low high b h i g e = pick (before_or low i)
  where
    tied : cmp q (at ks i) ≡ Ordering.Equal
    tied = subst (λ (k : List ℕ). cmp q k ≡ Ordering.Equal) (sym e) (tied_itself nat_list_cmp_total q)

    pick : (i < low) ⊎ (low ≤ i) → ⊥
    pick (inl s) = let a = b.above i s in let t = tied in cc
    pick (inr s) = let a = b.below i (omega (arith, h, s)) g in let t = tied in cc

-- how the key compares with the one that was read
pub met : (ks : List (List ℕ)) (q : List ℕ) (m : ℕ) (x s : List ℕ) (o r : Ordering) → m < length ks → x ≡ get_or ks m x → s ≡ x → r ≡ cmp q s
    → r ≡ o → cmp q (at ks m) ≡ o
met ks q m x s o r small is same found so =
    ap (cmp q) (get_or_default ks m [] x small ∙ sym is ∙ sym same) ∙ (sym found ∙ so)

-- What an anonymous function captures, name by name.
use Rattle.std.proofs.Common.{◌≡◌, ◌≤◌, ◌<◌, ℕ, zero, suc, ◌+◌, List, [], ◌∷◌, length, take, get_or, Bool, true, false, Some, None, refl, sym, ap}
use Rattle.std.proofs.Common.{subst, ◌∙◌, arith}
use Rattle.std.specs.Ordering.{nat_cmp, match_ordering, ordering_reverse, is_eq}
use Rattle.std.specs.Cmp.Lexicographic.{slice_cmp}
use Rattle.std.specs.declared.cmp.Ordering.{Ordering}
use Rattle.std.proofs.lemmas.Cmp.{nat_list_cmp_total, tied_itself}
use Rattle.sky_base.specs.Val.{no_pairs, pair, Rising, RisingFrom, same_text}
use Rattle.sky_base.specs.Op.{find, put}
use Rattle.sky_base.specs.Eval.{is_one_of, caught_if, caught_by}
use Rattle.sky_base.proofs.Exact.{exact_text, self_text}
use Rattle.sky_base_scope.specs.Plain.{Val, Pairs}

-- ---- keys that rise

from_below : (j l : List ℕ) (ps : Pairs) → slice_cmp nat_cmp j l ≡ Ordering.Less → RisingFrom l ps → RisingFrom j ps
from_below j l no_pairs h r = tt
from_below j l (pair k v ps) h r = (nat_list_cmp_total.trans j l k h r.0, r.1)

rising_of : (k : List ℕ) (ps : Pairs) → RisingFrom k ps → Rising ps
rising_of k no_pairs r = tt
rising_of k (pair l v ps) r = r.1

from_caught : (xs : List (List ℕ)) (j : List ℕ) (ps : Pairs) → RisingFrom j ps → RisingFrom j (caught_by xs ps)
from_caught xs j no_pairs r = tt
from_caught xs j (pair k v ps) r = go (is_one_of k xs) (from_caught xs k ps r.1)
  where
    go : (b : Bool) → RisingFrom k (caught_by xs ps) → RisingFrom j (caught_if b k v (caught_by xs ps))
    go true h = (r.0, h)
    go false h = from_below j k (caught_by xs ps) r.0 h

put_first : (k : List ℕ) (v : Val) (ps : Pairs) → RisingFrom k ps → put k v ps ≡ pair k v ps
put_first k v no_pairs r = refl
put_first k v (pair l w ps) r = ap (λ o. match_ordering o (pair k v (pair l w ps)) (pair l v ps) (pair l w (put k v ps))) r.0

flip_less : (k l : List ℕ) → slice_cmp nat_cmp k l ≡ Ordering.Greater → slice_cmp nat_cmp l k ≡ Ordering.Less
flip_less k l h = nat_list_cmp_total.antisymm l k ∙ ap ordering_reverse h

flip_greater : (k l : List ℕ) → slice_cmp nat_cmp k l ≡ Ordering.Less → slice_cmp nat_cmp l k ≡ Ordering.Greater
flip_greater k l h = nat_list_cmp_total.antisymm l k ∙ ap ordering_reverse h

-- ---- one name more: xs, and then ys with n besides

module _ (n : List ℕ) (xs ys : List (List ℕ)) (same : (k : List ℕ) → same_text k n ≡ false → is_one_of k ys ≡ is_one_of k xs)
    (here : is_one_of n ys ≡ true) where
  -- no key above n is n
  caught_above : (j : List ℕ) (ps : Pairs) → slice_cmp nat_cmp n j ≡ Ordering.Less → RisingFrom j ps → caught_by ys ps ≡ caught_by xs ps
  caught_above j no_pairs h r = refl
  caught_above j (pair k v ps) h r =
      let l = nat_list_cmp_total.trans n j k h r.0 in
      ap (λ b. caught_if b k v (caught_by ys ps)) (same k (ap is_eq (flip_greater n k l)))
      ∙ ap (caught_if (is_one_of k xs) k v) (caught_above k ps l r.1)

  caught_from : (ps : Pairs) → RisingFrom n ps → caught_by ys ps ≡ caught_by xs ps
  caught_from no_pairs r = refl
  caught_from (pair k v ps) r =
      ap (λ b. caught_if b k v (caught_by ys ps)) (same k (ap is_eq (flip_greater n k r.0)))
      ∙ ap (caught_if (is_one_of k xs) k v) (caught_above k ps r.0 r.1)

  put_after : (b : Bool) (k : List ℕ) (v w : Val) (ps : Pairs) → slice_cmp nat_cmp n k ≡ Ordering.Greater → caught_if b k w (put n v ps)
      ≡ put n v (caught_if b k w ps)
  put_after true k v w ps g = ap (λ o. match_ordering o (pair n v (pair k w ps)) (pair k v ps) (pair k w (put n v ps))) (sym g)
  put_after false k v w ps g = refl

  put_again_here : (b : Bool) (w : Val) (ps : Pairs) → RisingFrom n ps → pair n w ps ≡ put n w (caught_if b n w ps)
  put_again_here true w ps r = ap (λ o. match_ordering o (pair n w (pair n w ps)) (pair n w ps) (pair n w (put n w ps)))
      (sym (tied_itself nat_list_cmp_total n))
  put_again_here false w ps r = sym (put_first n w ps r)

  none_step : (o : Ordering) (k : List ℕ) (w : Val) (ps : Pairs) → slice_cmp nat_cmp n k ≡ o → match_ordering o None (Some w) (find n ps) ≡ None
      → RisingFrom k ps → (find n ps ≡ None → caught_by ys ps ≡ caught_by xs ps) → caught_by ys (pair k w ps) ≡ caught_by xs (pair k w ps)
  none_step Ordering.Less k w ps c e r ih =
      ap (λ b. caught_if b k w (caught_by ys ps)) (same k (ap is_eq (flip_greater n k c)))
      ∙ ap (caught_if (is_one_of k xs) k w) (caught_above k ps c r)
  none_step Ordering.Equal k w ps c e r ih = absurd cc
  none_step Ordering.Greater k w ps c e r ih =
      ap (λ b. caught_if b k w (caught_by ys ps)) (same k (ap is_eq (flip_less n k c))) ∙ ap (caught_if (is_one_of k xs) k w) (ih e)

  pub caught_none : (ps : Pairs) → Rising ps → find n ps ≡ None → caught_by ys ps ≡ caught_by xs ps
  caught_none no_pairs r e = refl
  caught_none (pair k w ps) r e =
      none_step (slice_cmp nat_cmp n k) k w ps refl e r (caught_none ps (rising_of k ps r))

  some_step : (o : Ordering) (k : List ℕ) (v w : Val) (ps : Pairs) → slice_cmp nat_cmp n k ≡ o → match_ordering o None (Some w) (find n ps)
      ≡ Some v → RisingFrom k ps → (find n ps ≡ Some v → caught_by ys ps ≡ put n v (caught_by xs ps)) → caught_by ys (pair k w ps)
      ≡ put n v (caught_by xs (pair k w ps))
  some_step Ordering.Less k v w ps c e r ih = absurd cc
  some_step Ordering.Equal k v w ps c e r ih =
      let is : n ≡ k = exact_text n k (ap is_eq c) in
      let value : w ≡ v = cc in
      subst (λ x. caught_by ys (pair k w ps) ≡ put n x (caught_by xs (pair k w ps))) value
      (subst (λ x. RisingFrom x ps → caught_by ys (pair x w ps) ≡ put n w (caught_by xs (pair x w ps))) is at_n r)
    where
      at_n : RisingFrom n ps → caught_by ys (pair n w ps) ≡ put n w (caught_by xs (pair n w ps))
      at_n q =
          ap (λ b. caught_if b n w (caught_by ys ps)) here ∙ ap (pair n w) (caught_from ps q)
          ∙ put_again_here (is_one_of n xs) w (caught_by xs ps) (from_caught xs n ps q)
  some_step Ordering.Greater k v w ps c e r ih =
      ap (λ b. caught_if b k w (caught_by ys ps)) (same k (ap is_eq (flip_less n k c))) ∙ ap (caught_if (is_one_of k xs) k w) (ih e)
      ∙ put_after (is_one_of k xs) k v w (caught_by xs ps) c

  pub caught_some : (v : Val) (ps : Pairs) → Rising ps → find n ps ≡ Some v → caught_by ys ps ≡ put n v (caught_by xs ps)
  caught_some v no_pairs r e = absurd cc
  caught_some v (pair k w ps) r e =
      some_step (slice_cmp nat_cmp n k) k v w ps refl e r (caught_some v ps (rising_of k ps r))

-- ---- the names up to one, and this one

one_not : (k n : List ℕ) (b : Bool) (xs : List (List ℕ)) → same_text k n ≡ b → b ≡ true → is_one_of k (n ∷ xs) ≡ true
one_not k n true xs e h = rw e refl
one_not k n false xs e h = absurd cc

one_past : (k n : List ℕ) (xs : List (List ℕ)) → same_text k n ≡ false → is_one_of k (n ∷ xs) ≡ is_one_of k xs
one_past k n xs e = rw e refl

more_same : (k : List ℕ) (xs : List (List ℕ)) (i : ℕ) (n : List ℕ) → i < length xs → n ≡ get_or xs i n → same_text k n ≡ false
    → is_one_of k (take (i + 1) xs) ≡ is_one_of k (take i xs)
more_same k [] i n h e f = absurd (omega (arith, h))
more_same k (x ∷ xs) zero n h e f = one_past k x [] (subst (λ z. same_text k z ≡ false) e f)
more_same k (x ∷ xs) (suc i) n h e f =
    let m : suc i + 1 ≡ suc (i + 1) = omega arith in
    rw m (either (same_text k x) refl (more_same k xs i n (omega (arith, h)) e f))
  where
    either : (b : Bool) → same_text k x ≡ b → is_one_of k (take (i + 1) xs) ≡ is_one_of k (take i xs) → is_one_of k (x ∷ take (i + 1) xs)
        ≡ is_one_of k (x ∷ take i xs)
    either true q s = one_not k x true (take (i + 1) xs) q refl ∙ sym (one_not k x true (take i xs) q refl)
    either false q s = one_past k x (take (i + 1) xs) q ∙ s ∙ sym (one_past k x (take i xs) q)

more_here : (xs : List (List ℕ)) (i : ℕ) (n : List ℕ) → i < length xs → n ≡ get_or xs i n → is_one_of n (take (i + 1) xs) ≡ true
more_here [] i n h e = absurd (omega (arith, h))
more_here (x ∷ xs) zero n h e = one_not n x true [] (subst (λ z. same_text n z ≡ true) e (self_text n)) refl
more_here (x ∷ xs) (suc i) n h e =
    let m : suc i + 1 ≡ suc (i + 1) = omega arith in
    rw m (either (same_text n x) refl (more_here xs i n (omega (arith, h)) e))
  where
    either : (b : Bool) → same_text n x ≡ b → is_one_of n (take (i + 1) xs) ≡ true → is_one_of n (x ∷ take (i + 1) xs) ≡ true
    either true q s = one_not n x true (take (i + 1) xs) q refl
    either false q s = one_past n x (take (i + 1) xs) q ∙ s

pub catch_none : (xs : List (List ℕ)) (i : ℕ) (n : List ℕ) (ps : Pairs) → i < length xs → n ≡ get_or xs i n → Rising ps → find n ps ≡ None
    → caught_by (take (i + 1) xs) ps ≡ caught_by (take i xs) ps
catch_none xs i n ps h e r f =
    caught_none n (take i xs) (take (i + 1) xs) (λ k q. more_same k xs i n h e q) (more_here xs i n h e) ps r f

pub catch_some : (xs : List (List ℕ)) (i : ℕ) (n : List ℕ) (v : Val) (ps : Pairs) → i < length xs → n ≡ get_or xs i n → Rising ps → find n ps
    ≡ Some v → caught_by (take (i + 1) xs) ps ≡ put n v (caught_by (take i xs) ps)
catch_some xs i n v ps h e r f =
    caught_some n (take i xs) (take (i + 1) xs) (λ k q. more_same k xs i n h e q) (more_here xs i n h e) v ps r f

pub caught_no_names : (ps : Pairs) → caught_by [] ps ≡ no_pairs
caught_no_names no_pairs = refl
caught_no_names (pair k v ps) = caught_no_names ps

pub take_whole : (xs : List (List ℕ)) (i : ℕ) → length xs ≤ i → take i xs ≡ xs
take_whole [] zero h = refl
take_whole [] (suc i) h = refl
take_whole (x ∷ xs) zero h = absurd (omega (arith, h))
take_whole (x ∷ xs) (suc i) h = ap (λ ys. x ∷ ys) (take_whole xs i (omega (arith, h)))

pub ruleset catches = (catch_none, catch_some, caught_no_names, take_whole)

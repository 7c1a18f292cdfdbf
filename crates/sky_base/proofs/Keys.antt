-- Keys stay in order.
use Rattle.std.proofs.Common.{◌≡◌, ℕ, zero, suc, ◌<◌, ◌≤◌, List, [], ◌∷◌, length, get_or, set, refl, ap, sym, ◌∙◌, arith, Some, None, ◌+◌, ◌⊎◌, inl}
use Rattle.std.proofs.Common.{inr}
use Rattle.std.specs.List.{insert}
use Rattle.std.specs.Ordering.{nat_cmp, match_ordering, MatchOrdering, ordering_then, ordering_reverse}
use Rattle.std.specs.Cmp.Lexicographic.{slice_cmp}
use Rattle.std.proofs.lemmas.Cmp.{nat_list_cmp_total, ranked}
use Rattle.std.specs.declared.cmp.Ordering.{Ordering}
use Rattle.sky_base.specs.Val.{Val, Pairs, no_pairs, pair, Rising, RisingFrom}
use Rattle.sky_base.specs.Op.{put, find}
use Rattle.sky_base.specs.View.{view, pairs_of}
use Rattle.sky_base.specs.Place.{Passed}
use Rattle.sky_base.specs.declared.value.Pair.{Pair}

flipped : (k l : List ℕ) → slice_cmp nat_cmp k l ≡ Ordering.Greater → slice_cmp nat_cmp l k ≡ Ordering.Less
flipped k l h = nat_list_cmp_total.antisymm l k ∙ ap ordering_reverse h

from_step : (o : Ordering) (j k l : List ℕ) (v w : Val (List ℕ)) (ps rest : Pairs (List ℕ)) → slice_cmp nat_cmp k l ≡ o → slice_cmp nat_cmp j k
    ≡ Ordering.Less → RisingFrom j (pair l w ps) → (slice_cmp nat_cmp l k ≡ Ordering.Less → RisingFrom l rest)
    → RisingFrom j (match_ordering o (pair k v (pair l w ps)) (pair l v ps) (pair l w rest))
from_step Ordering.Less j k l v w ps rest e h r ih = (h, (e, r.1))
from_step Ordering.Equal j k l v w ps rest e h r ih = r
from_step Ordering.Greater j k l v w ps rest e h r ih = (r.0, ih (flipped k l e))

put_from : (j k : List ℕ) (v : Val (List ℕ)) (ps : Pairs (List ℕ)) → slice_cmp nat_cmp j k ≡ Ordering.Less → RisingFrom j ps
    → RisingFrom j (put k v ps)
put_from j k v no_pairs h r = (h, tt)
put_from j k v (pair l w ps) h r =
    from_step (slice_cmp nat_cmp k l) j k l v w ps (put k v ps) refl h r (λ g. put_from l k v ps g r.1)

top_step : (o : Ordering) (k l : List ℕ) (v w : Val (List ℕ)) (ps rest : Pairs (List ℕ)) → slice_cmp nat_cmp k l ≡ o → RisingFrom l ps
    → (slice_cmp nat_cmp l k ≡ Ordering.Less → RisingFrom l rest)
    → Rising (match_ordering o (pair k v (pair l w ps)) (pair l v ps) (pair l w rest))
top_step Ordering.Less k l v w ps rest e r ih = (e, r)
top_step Ordering.Equal k l v w ps rest e r ih = r
top_step Ordering.Greater k l v w ps rest e r ih = ih (flipped k l e)

pub Rising-put : (k : List ℕ) (v : Val (List ℕ)) (ps : Pairs (List ℕ)) → Rising ps → Rising (put k v ps)
Rising-put k v no_pairs r = tt
Rising-put k v (pair l w ps) r = top_step (slice_cmp nat_cmp k l) k l v w ps (put k v ps) refl r (λ g. put_from l k v ps g r)

put_past : (k l : List ℕ) (v w : Val (List ℕ)) (ps : Pairs (List ℕ)) → slice_cmp nat_cmp k l ≡ Ordering.Greater → put k v (pair l w ps)
    ≡ pair l w (put k v ps)
put_past k l v w ps h = ap (λ o. match_ordering o (pair k v (pair l w ps)) (pair l v ps) (pair l w (put k v ps))) h

put_here : (k l : List ℕ) (v w : Val (List ℕ)) (ps : Pairs (List ℕ)) → slice_cmp nat_cmp k l ≡ Ordering.Equal → put k v (pair l w ps) ≡ pair l v ps
put_here k l v w ps h = ap (λ o. match_ordering o (pair k v (pair l w ps)) (pair l v ps) (pair l w (put k v ps))) h

put_front : (k l : List ℕ) (v w : Val (List ℕ)) (ps : Pairs (List ℕ)) → slice_cmp nat_cmp k l ≡ Ordering.Less → put k v (pair l w ps)
    ≡ pair k v (pair l w ps)
put_front k l v w ps h = ap (λ o. match_ordering o (pair k v (pair l w ps)) (pair l v ps) (pair l w (put k v ps))) h

pub put_insert : (ps : List Pair) (i : ℕ) (p : Pair) → Passed ps p.key i
    → ((d : Pair) → i < length ps → slice_cmp nat_cmp p.key (get_or ps i d).key ≡ Ordering.Less) → i ≤ length ps → pairs_of (insert ps i p)
    ≡ put p.key (view p.value) (pairs_of ps)
put_insert [] zero p h g n = refl
put_insert [] (suc i) p h g n = absurd (omega arith)
put_insert (q ∷ ps) zero p h g n = sym (put_front p.key q.key (view p.value) (view q.value) (pairs_of ps) (g q (omega arith)))
put_insert (q ∷ ps) (suc i) p h g n =
    ap (pair q.key (view q.value)) (put_insert ps i p (λ j d m. h (suc j) d (omega arith)) (λ d m. g d (omega arith)) (omega arith))
    ∙ sym (put_past p.key q.key (view p.value) (view q.value) (pairs_of ps) (h zero q (omega arith)))

same_step : (o : Ordering) (x y : ℕ) (xs ys : List ℕ) → MatchOrdering o (x < y) (x ≡ y) (y < x) → ordering_then o (slice_cmp nat_cmp xs ys)
    ≡ Ordering.Equal → (slice_cmp nat_cmp xs ys ≡ Ordering.Equal → xs ≡ ys) → x ∷ xs ≡ y ∷ ys
same_step Ordering.Less x y xs ys m e f = absurd cc
same_step Ordering.Equal x y xs ys m e f = λ i. m i ∷ f e i
same_step Ordering.Greater x y xs ys m e f = absurd cc

-- keys that compare as equal are equal
pub same_key : (k l : List ℕ) → slice_cmp nat_cmp k l ≡ Ordering.Equal → k ≡ l
same_key [] [] e = refl
same_key [] (y ∷ ys) e = absurd cc
same_key (x ∷ xs) [] e = absurd cc
same_key (x ∷ xs) (y ∷ ys) e = same_step (nat_cmp x y) x y xs ys (ranked x y (nat_cmp x y) refl) e (same_key xs ys)

pub put_set : (ps : List Pair) (i : ℕ) (p : Pair) → i < length ps → Passed ps p.key i
    → ((d : Pair) → slice_cmp nat_cmp p.key (get_or ps i d).key ≡ Ordering.Equal) → pairs_of (set ps i p)
    ≡ put p.key (view p.value) (pairs_of ps)
put_set [] i p n h g = absurd (omega arith)
put_set (r ∷ ps) zero p n h g =
    (λ j. pair (same_key p.key r.key (g r) j) (view p.value) (pairs_of ps))
    ∙ sym (put_here p.key r.key (view p.value) (view r.value) (pairs_of ps) (g r))
put_set (r ∷ ps) (suc i) p n h g =
    ap (pair r.key (view r.value)) (put_set ps i p (omega arith) (λ j d m. h (suc j) d (omega arith)) g)
    ∙ sym (put_past p.key r.key (view p.value) (view r.value) (pairs_of ps) (h zero r (omega arith)))

-- ---- keys that rise

rising_from : (k : List ℕ) (ps : List Pair) (m : ℕ) (d : Pair) → RisingFrom k (pairs_of ps) → m < length ps
    → slice_cmp nat_cmp k (get_or ps m d).key ≡ Ordering.Less
rising_from k [] m d r h = absurd (omega arith)
rising_from k (p ∷ ps) zero d r h = r.0
rising_from k (p ∷ ps) (suc m) d r h =
    nat_list_cmp_total.trans k p.key (get_or ps m d).key r.0 (rising_from p.key ps m d r.1 (omega arith))

rising_at : (ps : List Pair) (j m : ℕ) (d : Pair) → Rising (pairs_of ps) → j < m → m < length ps
    → slice_cmp nat_cmp (get_or ps j d).key (get_or ps m d).key ≡ Ordering.Less
rising_at [] j m d r h n = absurd (omega arith)
rising_at (p ∷ ps) j zero d r h n = absurd (omega arith)
rising_at (p ∷ ps) zero (suc m) d r h n = rising_from p.key ps m d r (omega arith)
rising_at (p ∷ ps) (suc j) (suc m) d r h n = rising_at ps j m d (rising_tail p ps r) (omega arith) (omega arith)
  where
    rising_tail : (p : Pair) (ps : List Pair) → RisingFrom p.key (pairs_of ps) → Rising (pairs_of ps)
    rising_tail p [] r = tt
    rising_tail p (q ∷ ps) r = r.1

raised : (k l : List ℕ) → slice_cmp nat_cmp l k ≡ Ordering.Less → slice_cmp nat_cmp k l ≡ Ordering.Greater
raised k l h = nat_list_cmp_total.antisymm k l ∙ ap ordering_reverse h

-- every key before a place is below the one that is above the key there, or equal to it
pub passed_below : (ps : List Pair) (m : ℕ) (k : List ℕ) → Rising (pairs_of ps) → m < length ps
    → ((d : Pair) → slice_cmp nat_cmp k (get_or ps m d).key ≡ Ordering.Greater) → Passed ps k (m + 1)
passed_below ps m k r n g = λ j d h. from_last j d (split_last j m h)
  where
    split_last : (j m : ℕ) → j < m + 1 → (j < m) ⊎ (j ≡ m)
    split_last j m h = grind arith

    from_last : (j : ℕ) (d : Pair) → (j < m) ⊎ (j ≡ m) → slice_cmp nat_cmp k (get_or ps j d).key ≡ Ordering.Greater
    from_last j d (inl h) =
        raised k (get_or ps j d).key (nat_list_cmp_total.trans (get_or ps j d).key (get_or ps m d).key k (rising_at ps j m d r h n)
        (flipped k (get_or ps m d).key (g d)))
    from_last j d (inr e) = rw e (g d)

pub passed_equal : (ps : List Pair) (m : ℕ) (k : List ℕ) → Rising (pairs_of ps) → m < length ps
    → ((d : Pair) → slice_cmp nat_cmp k (get_or ps m d).key ≡ Ordering.Equal) → Passed ps k m
passed_equal ps m k r n g = λ j d h. raised k (get_or ps j d).key (rw (same_key k (get_or ps m d).key (g d)) (rising_at ps j m d r h n))

same_item : (ps : List Pair) (m : ℕ) (d e : Pair) → m < length ps → get_or ps m d ≡ get_or ps m e
same_item [] m d e h = absurd (omega arith)
same_item (p ∷ ps) zero d e h = refl
same_item (p ∷ ps) (suc m) d e h = same_item ps m d e (omega arith)

-- how a key compares with the one at a place, whatever stands for a place that isn't there
pub item_is : (ps : List Pair) (m : ℕ) (x : Pair) (k : List ℕ) (o : Ordering) → m < length ps → x ≡ get_or ps m x → slice_cmp nat_cmp k x.key ≡ o
    → (d : Pair) → slice_cmp nat_cmp k (get_or ps m d).key ≡ o
item_is ps m x k o h e g d = ap (λ (y : Pair). slice_cmp nat_cmp k y.key) (same_item ps m d x h ∙ sym e) ∙ g

find_past : (k l : List ℕ) (v : Val (List ℕ)) (ps : Pairs (List ℕ)) → slice_cmp nat_cmp k l ≡ Ordering.Greater → find k (pair l v ps) ≡ find k ps
find_past k l v ps h = ap (λ o. match_ordering o None (Some v) (find k ps)) h

pub find_here : (ps : List Pair) (i : ℕ) (k : List ℕ) (x : Pair) → i < length ps → Passed ps k i
    → ((d : Pair) → slice_cmp nat_cmp k (get_or ps i d).key ≡ Ordering.Equal) → find k (pairs_of ps) ≡ Some (view (get_or ps i x).value)
find_here [] i k x n h g = absurd (omega arith)
find_here (q ∷ ps) zero k x n h g = ap (λ o. match_ordering o None (Some (view q.value)) (find k (pairs_of ps))) (g q)
find_here (q ∷ ps) (suc i) k x n h g =
    find_past k q.key (view q.value) (pairs_of ps) (h zero q (omega arith))
    ∙ find_here ps i k x (omega arith) (λ j d m. h (suc j) d (omega arith)) g

pub find_nowhere : (ps : List Pair) (i : ℕ) (k : List ℕ) → i ≤ length ps → Passed ps k i
    → ((d : Pair) → i < length ps → slice_cmp nat_cmp k (get_or ps i d).key ≡ Ordering.Less) → find k (pairs_of ps) ≡ None
find_nowhere [] i k n h g = refl
find_nowhere (q ∷ ps) zero k n h g = ap (λ o. match_ordering o None (Some (view q.value)) (find k (pairs_of ps))) (g q (omega arith))
find_nowhere (q ∷ ps) (suc i) k n h g =
    find_past k q.key (view q.value) (pairs_of ps) (h zero q (omega arith))
    ∙ find_nowhere ps i k (omega arith) (λ j d m. h (suc j) d (omega arith)) (λ d m. g d (omega arith))

pub ruleset finds = (find_here, find_nowhere)

pub ruleset keys = (Rising-put, put_insert, put_set)

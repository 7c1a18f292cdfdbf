-- Adding a number at a line makes the totals of one entry more.
use Rattle.std.proofs.Common.{◌≡◌, ℕ, ◌+◌, Bool, true, false, ◌||◌, cond, List, [], ◌∷◌, ◌++◌, map, fold, Option, Some, unwrap_or, Ordering, Less}
use Rattle.std.proofs.Common.{Equal, Greater, refl, sym, ap, ap₂, subst, ◌∙◌, arith}
use Rattle.std.specs.List.{list_any}
use Rattle.std.specs.Ordering.{nat_cmp, match_ordering, is_eq, ordering_reverse}
use Rattle.std.specs.Cmp.Lexicographic.{slice_cmp}
use Rattle.std.specs.BTreeMap.{insert_entry, is_at}
use Rattle.std.specs.BTreeSet.{insert_key}
use Rattle.std.specs.Map.{lookup}
use Rattle.std.specs.Str.{bytes_eq}
use Rattle.std.proofs.lemmas.Cmp.{nat_list_cmp_total}
use Rattle.std.proofs.lemmas.Map.Text.{is_eq-slice_cmp}
use Rattle.std.proofs.lemmas.Slice.Eq.{bytes_eq-Decides}
use Rattle.std.proofs.lemmas.List.{map-append}
use Rattle.std.proofs.lemmas.List.Sums.{fold-append}
use Rattle.line_kit.proofs.Truth.{or_none}
use Rattle.line_kit.specs.Orders.{total, rests}
use Rattle.line_kit.specs.Totals.{sum_at, with_more, totals}

abbrev cmp : List ℕ → List ℕ → Ordering
cmp = slice_cmp nat_cmp

-- ---- the order of lines

pub same_if_equal : (k l : List ℕ) → cmp k l ≡ Equal → k ≡ l
same_if_equal k l e = (bytes_eq-Decides k l).0 (sym (is_eq-slice_cmp k l) ∙ ap is_eq e)

pub turned : (k l : List ℕ) (o : Ordering) → cmp k l ≡ o → cmp l k ≡ ordering_reverse o
turned k l o e = nat_list_cmp_total.antisymm l k ∙ ap ordering_reverse e

other : (k l : List ℕ) (o : Ordering) → cmp k l ≡ o → is_eq o ≡ false → bytes_eq k l ≡ false
other k l o e f = sym (is_eq-slice_cmp k l) ∙ ap is_eq e ∙ f

pub same_self : (k : List ℕ) → bytes_eq k k ≡ true
same_self k = (bytes_eq-Decides k k).1 refl

-- each line is above the one given, and each further one above the one before it
abbrev pub Above : List ℕ → List (List ℕ) → Type 0
Above x [] = Unit {0}
Above x (z ∷ zs) = (cmp x z ≡ Less) × Above x zs

abbrev pub Rises : List (List ℕ) → Type 0
Rises [] = Unit {0}
Rises (y ∷ ys) = Above y ys × Rises ys

pub Above-under : (x y : List ℕ) (zs : List (List ℕ)) → cmp x y ≡ Less → Above y zs → Above x zs
Above-under x y [] h a = tt
Above-under x y (z ∷ zs) h a = (nat_list_cmp_total.trans x y z h a.0, Above-under x y zs h a.1)

abbrev pub put_key : List (List ℕ) → List ℕ → List (List ℕ)
put_key = insert_key cmp

Above-by : (x k y : List ℕ) (ys : List (List ℕ)) (o : Ordering) → cmp x k ≡ Less → Above x (y ∷ ys) → Above x (put_key ys k)
    → Above x (match_ordering o (k ∷ y ∷ ys) (y ∷ ys) (y ∷ put_key ys k))
Above-by x k y ys Less h a ih = (h, a)
Above-by x k y ys Equal h a ih = a
Above-by x k y ys Greater h a ih = (a.0, ih)

Above-put : (x k : List ℕ) (ys : List (List ℕ)) → cmp x k ≡ Less → Above x ys → Above x (put_key ys k)
Above-put x k [] h a = (h, tt)
Above-put x k (y ∷ ys) h a = Above-by x k y ys (cmp k y) h a (Above-put x k ys h a.1)

Rises-by : (k y : List ℕ) (ys : List (List ℕ)) (o : Ordering) → cmp k y ≡ o → Rises (y ∷ ys) → Rises (put_key ys k)
    → Rises (match_ordering o (k ∷ y ∷ ys) (y ∷ ys) (y ∷ put_key ys k))
Rises-by k y ys Less e r ih = ((e, Above-under k y ys e r.0), r)
Rises-by k y ys Equal e r ih = r
Rises-by k y ys Greater e r ih = (Above-put y k ys (turned k y Greater e) r.0, ih)

Rises-put : (k : List ℕ) (ys : List (List ℕ)) → Rises ys → Rises (put_key ys k)
Rises-put k [] r = (tt, tt)
Rises-put k (y ∷ ys) r = Rises-by k y ys (cmp k y) refl r (Rises-put k ys r.1)

pub Rises-fold : (xs ks : List (List ℕ)) → Rises ks → Rises (fold put_key ks xs)
Rises-fold [] ks r = r
Rises-fold (x ∷ xs) ks r = Rises-fold xs (put_key ks x) (Rises-put x ks r)

-- ---- lines with a number each

abbrev pairs : (List ℕ → ℕ) → List (List ℕ) → List (List ℕ × ℕ)
pairs f ks = map (λ l. (l, f l)) ks

-- two functions agree but at k
abbrev Agree : (List ℕ → ℕ) → (List ℕ → ℕ) → List ℕ → Type 0
Agree f g k = (l : List ℕ) → bytes_eq l k ≡ false → g l ≡ f l

pairs-above : (f g : List ℕ → ℕ) (k : List ℕ) (ys : List (List ℕ)) → Agree f g k → Above k ys → pairs f ys ≡ pairs g ys
pairs-above f g k [] h a = refl
pairs-above f g k (y ∷ ys) h a =
    ap₂ (λ (n : ℕ) (more : List (List ℕ × ℕ)). (y, n) ∷ more) (sym (h y (other y k Greater (turned k y Less a.0) refl))) (pairs-above f g k ys h a.1)

insert_by : (f g : List ℕ → ℕ) (k y : List ℕ) (v : ℕ) (ys : List (List ℕ)) (o : Ordering) → cmp k y ≡ o → g k ≡ v → Agree f g k → Rises (y ∷ ys)
    → insert_entry cmp (pairs f ys) k v ≡ pairs g (put_key ys k)
    → match_ordering o ((k, v) ∷ pairs f (y ∷ ys)) ((y, v) ∷ pairs f ys) ((y, f y) ∷ insert_entry cmp (pairs f ys) k v)
    ≡ pairs g (match_ordering o (k ∷ y ∷ ys) (y ∷ ys) (y ∷ put_key ys k))
insert_by f g k y v ys Less e at h r ih =
    ap₂ (λ (n : ℕ) (more : List (List ℕ × ℕ)). (k, n) ∷ more) (sym at) (pairs-above f g k (y ∷ ys) h (e, Above-under k y ys e r.0))
insert_by f g k y v ys Equal e at h r ih =
    let same : k ≡ y = same_if_equal k y e in
    ap₂ (λ (n : ℕ) (more : List (List ℕ × ℕ)). (y, n) ∷ more) (sym at ∙ ap g same)
    (pairs-above f g k ys h (subst (λ (z : List ℕ). Above z ys) (sym same) r.0))
insert_by f g k y v ys Greater e at h r ih =
    ap₂ (λ (n : ℕ) (more : List (List ℕ × ℕ)). (y, n) ∷ more) (sym (h y (other y k Less (turned k y Greater e) refl))) ih

insert-pairs : (f g : List ℕ → ℕ) (k : List ℕ) (v : ℕ) (ks : List (List ℕ)) → g k ≡ v → Agree f g k → Rises ks
    → insert_entry cmp (pairs f ks) k v ≡ pairs g (put_key ks k)
insert-pairs f g k v [] at h r = ap (λ (n : ℕ). (k, n) ∷ []) (sym at)
insert-pairs f g k v (y ∷ ys) at h r = insert_by f g k y v ys (cmp k y) refl at h r (insert-pairs f g k v ys at h r.1)

lookup_by : (f : List ℕ → ℕ) (k y : List ℕ) (b : Bool) (found : Option ℕ) → bytes_eq k y ≡ b → (b ≡ false → unwrap_or found 0 ≡ f k)
    → unwrap_or (cond b (Some (f y)) found) 0 ≡ f k
lookup_by f k y true found e h = ap f (sym ((bytes_eq-Decides k y).0 e))
lookup_by f k y false found e h = h refl

lookup-pairs : (f : List ℕ → ℕ) (k : List ℕ) (ks : List (List ℕ)) → (list_any (bytes_eq k) ks ≡ false → f k ≡ 0)
    → unwrap_or (lookup (is_at (cmp k)) (pairs f ks)) 0 ≡ f k
lookup-pairs f k [] h = sym (h refl)
lookup-pairs f k (y ∷ ys) h =
    lookup_by f k y (is_eq (cmp k y)) (lookup (is_at (cmp k)) (pairs f ys)) (sym (is_eq-slice_cmp k y))
    (λ no. lookup-pairs f k ys (λ none. h (ap₂ (λ a b. a || b) (sym (is_eq-slice_cmp k y) ∙ no) none)))

-- ---- which lines are there

or_again : (a b : Bool) → a || b ≡ a || (a || b)
or_again true b = refl
or_again false b = refl

or_swap : (a b c : Bool) → a || (b || c) ≡ b || (a || c)
or_swap true true c = refl
or_swap true false c = refl
or_swap false true c = refl
or_swap false false c = refl

or_turn : (a b c : Bool) → a || (b || c) ≡ (b || a) || c
or_turn true true c = refl
or_turn true false c = refl
or_turn false true c = refl
or_turn false false c = refl

or_zero : (a : Bool) → a || false ≡ a
or_zero true = refl
or_zero false = refl

any_by : (q k y : List ℕ) (ys : List (List ℕ)) (o : Ordering) → cmp k y ≡ o → list_any (bytes_eq q) (put_key ys k) ≡ bytes_eq q k
    || list_any (bytes_eq q) ys
    → list_any (bytes_eq q) (match_ordering o (k ∷ y ∷ ys) (y ∷ ys) (y ∷ put_key ys k)) ≡ bytes_eq q k || (bytes_eq q y || list_any (bytes_eq q) ys)
any_by q k y ys Less e ih = refl
any_by q k y ys Equal e ih =
    let same : bytes_eq q y ≡ bytes_eq q k = ap (bytes_eq q) (sym (same_if_equal k y e)) in
    or_again (bytes_eq q y) (list_any (bytes_eq q) ys) ∙ ap (λ b. b || (bytes_eq q y || list_any (bytes_eq q) ys)) same
any_by q k y ys Greater e ih = ap (λ b. bytes_eq q y || b) ih ∙ or_swap (bytes_eq q y) (bytes_eq q k) (list_any (bytes_eq q) ys)

any-put : (q k : List ℕ) (ks : List (List ℕ)) → list_any (bytes_eq q) (put_key ks k) ≡ bytes_eq q k || list_any (bytes_eq q) ks
any-put q k [] = refl
any-put q k (y ∷ ys) = any_by q k y ys (cmp k y) refl (any-put q k ys)

pub any-fold : (q : List ℕ) (xs ks : List (List ℕ)) → list_any (bytes_eq q) (fold put_key ks xs) ≡ list_any (bytes_eq q) xs || list_any (bytes_eq q) ks
any-fold q [] ks = refl
any-fold q (x ∷ xs) ks =
    any-fold q xs (put_key ks x) ∙ ap (λ b. list_any (bytes_eq q) xs || b) (any-put q x ks)
    ∙ or_turn (list_any (bytes_eq q) xs) (bytes_eq q x) (list_any (bytes_eq q) ks)

total-none : (q : List ℕ) (es : List (List ℕ × ℕ)) → list_any (bytes_eq q) (map (λ e. e.0) es) ≡ false → total q es ≡ 0
total-none q [] h = refl
total-none q (e ∷ es) h =
    let both = or_none (bytes_eq q e.0) (list_any (bytes_eq q) (map (λ e. e.0) es)) h in
    rw both.0 (omega (arith, total-none q es both.1))

-- ---- totals

pub total-push : (q : List ℕ) (es : List (List ℕ × ℕ)) (k : List ℕ) (n : ℕ) → total q (es ++ (k, n) ∷ []) ≡ total q es + cond (bytes_eq q k) n 0
total-push q [] k n = omega arith
total-push q (e ∷ es) k n = omega (arith, total-push q es k n)

pub sum_at-totals : (es : List (List ℕ × ℕ)) (k : List ℕ) → sum_at (totals es) k ≡ total k es
unfolding sum_at
sum_at-totals es k =
    lookup-pairs (λ l. total l es) k (rests es)
    (λ none. total-none k es (sym (or_zero (list_any (bytes_eq k) (map (λ e. e.0) es))) ∙ sym (any-fold k (map (λ e. e.0) es) []) ∙ none))

rests-push : (es : List (List ℕ × ℕ)) (k : List ℕ) (n : ℕ) → rests (es ++ (k, n) ∷ []) ≡ put_key (rests es) k
rests-push es k n = ap (fold put_key []) (map-append (λ e. e.0) es ((k, n) ∷ [])) ∙ fold-append put_key [] (map (λ e. e.0) es) (k ∷ [])

pub with_more-totals : (es : List (List ℕ × ℕ)) (k : List ℕ) (n : ℕ) → with_more (totals es) k n ≡ totals (es ++ (k, n) ∷ [])
unfolding with_more
with_more-totals es k n =
    let at : total k (es ++ (k, n) ∷ []) ≡ sum_at (totals es) k + n =
    total-push k es k n ∙ ap (λ b. total k es + cond b n 0) (same_self k) ∙ ap (λ m. m + n) (sym (sum_at-totals es k)) in
    let agree : Agree (λ l. total l es) (λ l. total l (es ++ (k, n) ∷ [])) k =
    λ l no. total-push l es k n ∙ ap (λ b. total l es + cond b n 0) no ∙ omega arith in
    insert-pairs (λ l. total l es) (λ l. total l (es ++ (k, n) ∷ [])) k (sum_at (totals es) k + n) (rests es) at agree
    (Rises-fold (map (λ e. e.0) es) [] tt)
    ∙ ap (pairs (λ l. total l (es ++ (k, n) ∷ []))) (sym (rests-push es k n))

pub totals-none : totals [] ≡ []
totals-none = refl

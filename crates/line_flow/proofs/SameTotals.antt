-- Lists of lines with numbers that have the same totals.
use Rattle.std.proofs.Common.{◌≡◌, ℕ, zero, suc, ◌+◌, Bool, true, false, ◌||◌, cond, List, [], ◌∷◌, ◌++◌, map, Bor}
use Rattle.std.proofs.Common.{Ordering, Less, Equal, Greater, refl, sym, ap, ap₂, subst, ◌∙◌, arith}
use Rattle.std.specs.List.{list_any, sum_by}
use Rattle.std.specs.List.Sorted.{IsPermutation}
use Rattle.std.specs.Ordering.{nat_cmp, is_lt, is_eq}
use Rattle.std.specs.Cmp.Lexicographic.{slice_cmp}
use Rattle.std.specs.Str.{bytes_eq}
use Rattle.std.proofs.lemmas.Bool.{true≢false}
use Rattle.std.proofs.lemmas.Cmp.{nat_list_cmp_total}
use Rattle.std.proofs.lemmas.Map.Text.{is_eq-slice_cmp}
use Rattle.std.proofs.lemmas.Slice.Eq.{bytes_eq-Decides}
use Rattle.std.proofs.lemmas.List.{map-append}
use Rattle.std.proofs.lemmas.List.Sums.{sum_by-cons}
use Rattle.std.proofs.lemmas.List.Sorted.{sum_by-IsPermutation, list_any-IsPermutation}
use Rattle.line_kit.specs.Orders.{total, rests, below}
use Rattle.line_kit.specs.Totals.{with_more, totals}
use Rattle.line_kit.proofs.TotalsLaw.{Above, Rises, Above-under, Rises-fold, any-fold, same_if_equal, turned, same_self, with_more-totals, total-push}
use Rattle.line_flow.specs.Entries.{more_at, IsAt, lent}

abbrev cmp : List ℕ → List ℕ → Ordering
cmp = slice_cmp nat_cmp

abbrev pub keys : List (List ℕ × ℕ) → List (List ℕ)
keys es = map (λ e. e.0) es

-- ---- a rising list has each line once

apart : (k l : List ℕ) → cmp k l ≡ Less → bytes_eq k l ≡ false
apart k l e = sym (is_eq-slice_cmp k l) ∙ ap is_eq e

apart_turned : (k l : List ℕ) → cmp k l ≡ Less → bytes_eq l k ≡ false
apart_turned k l e = sym (is_eq-slice_cmp l k) ∙ ap is_eq (turned k l Less e)

above-none : (k : List ℕ) (ls : List (List ℕ)) → Above k ls → list_any (bytes_eq k) ls ≡ false
above-none k [] a = refl
above-none k (l ∷ ls) a = ap₂ (λ x y. x || y) (apart k l a.0) (above-none k ls a.1)

here : (k : List ℕ) (ls : List (List ℕ)) → list_any (bytes_eq k) (k ∷ ls) ≡ true
here k ls = ap (λ b. b || list_any (bytes_eq k) ls) (same_self k)

-- a line that stands below all others of a list stands in it only as the first
first_of : (k l : List ℕ) (ks ls : List (List ℕ)) → Above l ls → ((q : List ℕ) → list_any (bytes_eq q) (k ∷ ks) ≡ list_any (bytes_eq q) (l ∷ ls))
    → cmp k l ≡ Less → ⊥
first_of k l ks ls a h e =
    let none : list_any (bytes_eq k) (l ∷ ls) ≡ false = above-none k (l ∷ ls) (e, Above-under k l ls e a) in
    true≢false (sym (here k ks) ∙ h k ∙ none)

order_of : (k l : List ℕ) (o : Ordering) → cmp k l ≡ o → (cmp k l ≡ Less → ⊥) → (cmp l k ≡ Less → ⊥) → k ≡ l
order_of k l Less e f g = absurd (f e)
order_of k l Equal e f g = same_if_equal k l e
order_of k l Greater e f g = absurd (g (turned k l Greater e))

or_false : (b c : Bool) → b ≡ false → b || c ≡ c
or_false b c e = ap (λ (a : Bool). a || c) e

rest_by : (q k : List ℕ) (ks ls : List (List ℕ)) (b : Bool) → bytes_eq q k ≡ b → Above k ks → Above k ls
    → list_any (bytes_eq q) (k ∷ ks) ≡ list_any (bytes_eq q) (k ∷ ls) → list_any (bytes_eq q) ks ≡ list_any (bytes_eq q) ls
rest_by q k ks ls true e a b h =
    let same : q ≡ k = (bytes_eq-Decides q k).0 e in
    rw same (above-none k ks a ∙ sym (above-none k ls b))
rest_by q k ks ls false e a b h = sym (or_false (bytes_eq q k) (list_any (bytes_eq q) ks) e) ∙ h ∙ or_false (bytes_eq q k) (list_any (bytes_eq q) ls) e

pub same_rising : (ks ls : List (List ℕ)) → Rises ks → Rises ls → ((q : List ℕ) → list_any (bytes_eq q) ks ≡ list_any (bytes_eq q) ls) → ks ≡ ls
same_rising [] [] a b h = refl
same_rising [] (l ∷ ls) a b h = absurd (true≢false (sym (here l ls) ∙ sym (h l)))
same_rising (k ∷ ks) [] a b h = absurd (true≢false (sym (here k ks) ∙ h k))
same_rising (k ∷ ks) (l ∷ ls) a b h =
    let first : k ≡ l = order_of k l (cmp k l) refl (first_of k l ks ls b.0 h) (first_of l k ls ks a.0 (λ q. sym (h q))) in
    let same : (q : List ℕ) → list_any (bytes_eq q) (k ∷ ks) ≡ list_any (bytes_eq q) (k ∷ ls) =
    λ q. h q ∙ ap (λ (x : List ℕ). list_any (bytes_eq q) (x ∷ ls)) (sym first) in
    let above : Above k ls = subst (λ (x : List ℕ). Above x ls) (sym first) b.0 in
    let more : ks ≡ ls = same_rising ks ls a.1 b.1 (λ q. rest_by q k ks ls (bytes_eq q k) refl a.0 above (same q)) in
    ap₂ (λ (x : List ℕ) (xs : List (List ℕ)). x ∷ xs) first more

-- ---- lists with the same lines and the same sum at each line have the same totals

-- lines with a number each
abbrev pairs : (List ℕ → ℕ) → List (List ℕ) → List (List ℕ × ℕ)
pairs f ls = map (λ l. (l, f l)) ls

pairs-same : (xs ys : List (List ℕ × ℕ)) (ls : List (List ℕ)) → ((q : List ℕ) → total q xs ≡ total q ys)
    → pairs (λ l. total l xs) ls ≡ pairs (λ l. total l ys) ls
pairs-same xs ys [] h = refl
pairs-same xs ys (l ∷ ls) h = ap₂ (λ (n : ℕ) (more : List (List ℕ × ℕ)). (l, n) ∷ more) (h l) (pairs-same xs ys ls h)

or_none : (b : Bool) → b || false ≡ b
or_none true = refl
or_none false = refl

any-rests : (q : List ℕ) (es : List (List ℕ × ℕ)) → list_any (bytes_eq q) (rests es) ≡ list_any (bytes_eq q) (keys es)
any-rests q es = any-fold q (keys es) [] ∙ or_none (list_any (bytes_eq q) (keys es))

Rises-rests : (es : List (List ℕ × ℕ)) → Rises (rests es)
Rises-rests es = Rises-fold (keys es) [] tt

pub same_totals : (xs ys : List (List ℕ × ℕ)) → ((q : List ℕ) → total q xs ≡ total q ys)
    → ((q : List ℕ) → list_any (bytes_eq q) (keys xs) ≡ list_any (bytes_eq q) (keys ys)) → totals xs ≡ totals ys
same_totals xs ys sums lines =
    let same : rests xs ≡ rests ys =
    same_rising (rests xs) (rests ys) (Rises-rests xs) (Rises-rests ys) (λ q. any-rests q xs ∙ lines q ∙ sym (any-rests q ys)) in
    pairs-same xs ys (rests xs) sums ∙ ap (pairs (λ l. total l ys)) same

-- ---- a rising list is its totals

total-above : (k : List ℕ) (es : List (List ℕ × ℕ)) → Above k (keys es) → total k es ≡ 0
total-above k [] a = refl
total-above k (e ∷ es) a =
    let none = total-above k es a.1 in
    ap (λ b. cond b e.1 0 + total k es) (apart k e.0 a.0) ∙ omega (arith, none)

pairs-past : (e : List ℕ × ℕ) (es : List (List ℕ × ℕ)) (ls : List (List ℕ)) → Above e.0 ls
    → pairs (λ l. total l (e ∷ es)) ls ≡ pairs (λ l. total l es) ls
pairs-past e es [] a = refl
pairs-past e es (l ∷ ls) a =
    let at : total l (e ∷ es) ≡ total l es = ap (λ b. cond b e.1 0 + total l es) (apart_turned e.0 l a.0) ∙ omega arith in
    ap₂ (λ (n : ℕ) (more : List (List ℕ × ℕ)). (l, n) ∷ more) at (pairs-past e es ls a.1)

own : (es : List (List ℕ × ℕ)) → Rises (keys es) → pairs (λ l. total l es) (keys es) ≡ es
own [] r = refl
own (e ∷ es) r =
    let none : total e.0 es ≡ 0 = total-above e.0 es r.0 in
    let at : total e.0 (e ∷ es) ≡ e.1 = ap (λ b. cond b e.1 0 + total e.0 es) (same_self e.0) ∙ omega (arith, none) in
    ap₂ (λ (n : ℕ) (more : List (List ℕ × ℕ)). (e.0, n) ∷ more) at (pairs-past e es (keys es) r.0 ∙ own es r.1)

pub totals-rising : (es : List (List ℕ × ℕ)) → Rises (keys es) → totals es ≡ es
totals-rising es r =
    let same : rests es ≡ keys es = same_rising (rests es) (keys es) (Rises-rests es) r (λ q. any-rests q es) in
    ap (pairs (λ l. total l es)) same ∙ own es r

keys-totals : (es : List (List ℕ × ℕ)) (ls : List (List ℕ)) → keys (pairs (λ l. total l es) ls) ≡ ls
keys-totals es [] = refl
keys-totals es (l ∷ ls) = ap (λ (more : List (List ℕ)). l ∷ more) (keys-totals es ls)

pub totals-totals : (es : List (List ℕ × ℕ)) → totals (totals es) ≡ totals es
totals-totals es = totals-rising (totals es) (subst Rises (sym (keys-totals es (rests es))) (Rises-rests es))

-- ---- a number more at an entry that is there

keys-more_at : (es : List (List ℕ × ℕ)) (at n : ℕ) → keys (more_at es at n) ≡ keys es
keys-more_at [] at n = refl
keys-more_at (e ∷ es) zero n = refl
keys-more_at (e ∷ es) (suc at) n = ap (λ (more : List (List ℕ)). e.0 ∷ more) (keys-more_at es at n)

cond-add : (b : Bool) (m n t : ℕ) → cond b (m + n) 0 + t ≡ cond b m 0 + t + cond b n 0
cond-add true m n t = omega arith
cond-add false m n t = omega arith

total-more_at : (q line : List ℕ) (es : List (List ℕ × ℕ)) (at n : ℕ) → IsAt es at line → total q (more_at es at n) ≡ total q es
    + cond (bytes_eq q line) n 0
total-more_at q line [] at n h = absurd (omega (arith, h.0))
total-more_at q line (e ∷ es) zero n h =
    cond-add (bytes_eq q e.0) e.1 n (total q es) ∙ ap (λ (l : List ℕ). total q (e ∷ es) + cond (bytes_eq q l) n 0) h.1
total-more_at q line (e ∷ es) (suc at) n h =
    let more = total-more_at q line es at n (omega (arith, h.0), h.1) in
    omega (arith, more)

or_again : (b c : Bool) → (b || c) || b ≡ b || c
or_again true c = refl
or_again false c = or_none c

or_join : (a b c : Bool) → (a || b) || c ≡ a || (b || c)
or_join true b c = refl
or_join false b c = refl

any_at : (q line : List ℕ) (es : List (List ℕ × ℕ)) (at : ℕ) → IsAt es at line → list_any (bytes_eq q) (keys es) || bytes_eq q line
    ≡ list_any (bytes_eq q) (keys es)
any_at q line [] at h = absurd (omega (arith, h.0))
any_at q line (e ∷ es) zero h =
    ap (λ (l : List ℕ). list_any (bytes_eq q) (keys (e ∷ es)) || bytes_eq q l) (sym h.1)
    ∙ or_again (bytes_eq q e.0) (list_any (bytes_eq q) (keys es))
any_at q line (e ∷ es) (suc at) h =
    or_join (bytes_eq q e.0) (list_any (bytes_eq q) (keys es)) (bytes_eq q line)
    ∙ ap (λ b. bytes_eq q e.0 || b) (any_at q line es at (omega (arith, h.0), h.1))

any-push : (q line : List ℕ) (es : List (List ℕ × ℕ)) (n : ℕ) → list_any (bytes_eq q) (keys (es ++ (line, n) ∷ []))
    ≡ list_any (bytes_eq q) (keys es) || bytes_eq q line
any-push q line [] n = or_none (bytes_eq q line)
any-push q line (e ∷ es) n =
    ap (λ b. bytes_eq q e.0 || b) (any-push q line es n) ∙ sym (or_join (bytes_eq q e.0) (list_any (bytes_eq q) (keys es)) (bytes_eq q line))

pub totals-more_at : (es : List (List ℕ × ℕ)) (at : ℕ) (line : List ℕ) (n : ℕ) → IsAt es at line → totals (more_at es at n)
    ≡ with_more (totals es) line n
totals-more_at es at line n h =
    same_totals (more_at es at n) (es ++ (line, n) ∷ []) (λ q. total-more_at q line es at n h ∙ sym (total-push q es line n))
    (λ q. ap (list_any (bytes_eq q)) (keys-more_at es at n) ∙ sym (any_at q line es at h) ∙ sym (any-push q line es n))
    ∙ sym (with_more-totals es line n)

-- ---- two numbers at a line

pub with_more-twice : (es : List (List ℕ × ℕ)) (line : List ℕ) (m n : ℕ) → with_more (totals es) line (m + n)
    ≡ with_more (with_more (totals es) line m) line n
with_more-twice es line m n =
    with_more-totals es line (m + n)
    ∙ same_totals (es ++ (line, m + n) ∷ []) ((es ++ (line, m) ∷ []) ++ (line, n) ∷ []) (λ q.
    total-push q es line (m + n) ∙ twice (bytes_eq q line) m n (total q es)
    ∙ ap (λ t. t + cond (bytes_eq q line) n 0) (sym (total-push q es line m)) ∙ sym (total-push q (es ++ (line, m) ∷ []) line n)) (λ q.
    any-push q line es (m + n) ∙ again (list_any (bytes_eq q) (keys es)) (bytes_eq q line)
    ∙ ap (λ b. b || bytes_eq q line) (sym (any-push q line es m)) ∙ sym (any-push q line (es ++ (line, m) ∷ []) n))
    ∙ sym (with_more-totals (es ++ (line, m) ∷ []) line n) ∙ ap (λ t. with_more t line n) (sym (with_more-totals es line m))
  where
    twice : (b : Bool) (m n t : ℕ) → t + cond b (m + n) 0 ≡ t + cond b m 0 + cond b n 0
    twice true m n t = omega arith
    twice false m n t = omega arith

    again : (a b : Bool) → a || b ≡ (a || b) || b
    again true b = refl
    again false true = refl
    again false false = refl

-- a number more at the line at hand, and at another one
pub step_same : (es done : List (List ℕ × ℕ)) (line : List ℕ) (sum n : ℕ) → with_more (totals es) line sum ≡ totals done
    → with_more (totals es) line (sum + n) ≡ totals (done ++ (line, n) ∷ [])
step_same es done line sum n h = with_more-twice es line sum n ∙ ap (λ t. with_more t line n) h ∙ with_more-totals done line n

pub step_new : (es done : List (List ℕ × ℕ)) (line next : List ℕ) (sum n : ℕ) → with_more (totals es) line sum ≡ totals done
    → with_more (totals (es ++ (line, sum) ∷ [])) next n ≡ totals (done ++ (next, n) ∷ [])
step_new es done line next sum n h =
    ap (λ t. with_more t next n) (sym (with_more-totals es line sum) ∙ h) ∙ with_more-totals done next n

-- ---- another order

total-lent : (q : List ℕ) (sums : List (Bor (List ℕ) × ℕ)) → total q (lent sums) ≡ sum_by (λ s. cond (bytes_eq q s.0.now) s.1 0) sums
total-lent q [] = refl
total-lent q (s ∷ sums) =
    ap (λ t. cond (bytes_eq q s.0.now) s.1 0 + t) (total-lent q sums) ∙ sym (sum_by-cons (λ (x : Bor (List ℕ) × ℕ). cond (bytes_eq q x.0.now) x.1 0) s sums)

any-lent : (q : List ℕ) (sums : List (Bor (List ℕ) × ℕ)) → list_any (bytes_eq q) (keys (lent sums)) ≡ list_any (λ s. bytes_eq q s.0.now) sums
any-lent q [] = refl
any-lent q (s ∷ sums) = ap (λ b. bytes_eq q s.0.now || b) (any-lent q sums)

pub totals-permuted : (xs ys : List (Bor (List ℕ) × ℕ)) → IsPermutation xs ys → totals (lent ys) ≡ totals (lent xs)
totals-permuted xs ys p =
    same_totals (lent ys) (lent xs) (λ q. total-lent q ys
    ∙ sum_by-IsPermutation (λ (s : Bor (List ℕ) × ℕ). cond (bytes_eq q s.0.now) s.1 0) xs ys p ∙ sym (total-lent q xs)) (λ q. any-lent q ys
    ∙ sym (list_any-IsPermutation (λ (s : Bor (List ℕ) × ℕ). bytes_eq q s.0.now) xs ys p) ∙ sym (any-lent q xs))

-- ---- a line more at the end of a rising list

Above-last : (x k : List ℕ) (ls : List (List ℕ)) → Above x (ls ++ k ∷ []) → cmp x k ≡ Less
Above-last x k [] a = a.0
Above-last x k (l ∷ ls) a = Above-last x k ls a.1

Above-push : (x k : List ℕ) (ls : List (List ℕ)) → Above x ls → cmp x k ≡ Less → Above x (ls ++ k ∷ [])
Above-push x k [] a e = (e, tt)
Above-push x k (l ∷ ls) a e = (a.0, Above-push x k ls a.1 e)

pub Rises-push : (ls : List (List ℕ)) (k next : List ℕ) → Rises (ls ++ k ∷ []) → cmp k next ≡ Less → Rises ((ls ++ k ∷ []) ++ next ∷ [])
Rises-push [] k next r e = ((e, tt), (tt, tt))
Rises-push (l ∷ ls) k next r e =
    (Above-push l next (ls ++ k ∷ []) r.0 (nat_list_cmp_total.trans l k next (Above-last l k ls r.0) e), Rises-push ls k next r.1 e)

-- what is not below and is another is above
pub then_less : (k next : List ℕ) → below next k ≡ false → bytes_eq next k ≡ false → cmp k next ≡ Less
then_less k next f g = by (cmp next k) refl
  where
    by : (o : Ordering) → cmp next k ≡ o → cmp k next ≡ Less
    by Less e = absurd (true≢false (sym (ap is_lt e) ∙ f))
    by Equal e = absurd (true≢false (sym (ap is_eq e) ∙ is_eq-slice_cmp next k ∙ g))
    by Greater e = turned next k Greater e

-- a rising list with the line at hand is the totals
pub all_merged : (es done : List (List ℕ × ℕ)) (line : List ℕ) (sum : ℕ) → with_more (totals es) line sum ≡ totals done
    → Rises (keys es ++ line ∷ []) → es ++ (line, sum) ∷ [] ≡ totals done
all_merged es done line sum h r =
    sym (totals-rising (es ++ (line, sum) ∷ []) (subst Rises (sym (map-append (λ e. e.0) es ((line, sum) ∷ []))) r))
    ∙ sym (with_more-totals es line sum) ∙ h

-- Values and pairs that are read one after the other.
use Rattle.std.proofs.Common.{◌≡◌, ◌≤◌, ◌<◌, ◌+◌, ◌-◌, max, ℕ, zero, suc, List, [], ◌∷◌, ◌++◌, Bool, true, false, length, get_or, refl, ap, ap₂, sym}
use Rattle.std.proofs.Common.{◌∙◌, subst, arith, append_assoc, append-nil}
use Rattle.std.specs.Ordering.{nat_cmp, is_lt, match_ordering, ordering_reverse}
use Rattle.std.specs.Cmp.Lexicographic.{slice_cmp}
use Rattle.std.specs.declared.cmp.Ordering.{Ordering}
use Rattle.std.proofs.lemmas.Cmp.{nat_list_cmp_total}
use Rattle.sky_base.specs.Val.{Val, Vals, Pairs, no_vals, val, no_pairs, pair, count, pair_count, depth, depths, pair_depths, add_val, Rising}
use Rattle.sky_base.specs.Val.{RisingFrom, size, sizes, pair_sizes}
use Rattle.sky_base.specs.Op.{put}
use Rattle.sky_base.specs.Name.{bytes, vals_bytes, pairs_bytes, bytes_of_text}
use Rattle.sky_base.specs.View.{view, pairs_of}
use Rattle.sky_base.specs.declared.value.Pair.{Pair}
use Rattle.sky_base.proofs.Values.{depths-add}
use Rattle.sky_base.proofs.Keys.{Rising-put}
use Rattle.ciel_name.specs.Spelled.{IsText, Spelled, AllSpelled, PairsSpelled, Read, NoneRead, TextRead, NoTextWithin}
use Rattle.ciel_name.specs.Bodies.{ItemsRead, NoItems, PairsRead, NoPairs, above_from, is_above}
use Rattle.ciel_name.proofs.PrefixFreeBytes.{val_free, text_free, pair_bytes}

-- ---- values

bytes-add : (vs : Vals (List ℕ)) (v : Val (List ℕ)) → vals_bytes (add_val vs v) ≡ vals_bytes vs ++ bytes v
bytes-add no_vals v = append-nil (bytes v)
bytes-add (val w vs) v = ap (λ b. bytes w ++ b) (bytes-add vs v) ∙ sym (append_assoc (bytes w) (vals_bytes vs) (bytes v))

spelled-add : (vs : Vals (List ℕ)) (v : Val (List ℕ)) → AllSpelled vs → Spelled v → AllSpelled (add_val vs v)
spelled-add no_vals v p q = (q, tt)
spelled-add (val w vs) v p q = (p.0, spelled-add vs v p.1 q)

count-add : (vs : Vals (List ℕ)) (v : Val (List ℕ)) → count (add_val vs v) ≡ count vs + 1
count-add no_vals v = refl
count-add (val w vs) v = omega (arith, count-add vs v)

pub sizes-add : (vs : Vals (List ℕ)) (v : Val (List ℕ)) → sizes (add_val vs v) ≡ sizes vs + size v
sizes-add no_vals v = omega arith
sizes-add (val w vs) v = omega (arith, sizes-add vs v)

pub items_start : (left : ℕ) (old : List ℕ) → ItemsRead 0 left old no_vals old
items_start left old = (refl, (tt, (omega arith, refl)))

pub items_more : (i left : ℕ) (old : List ℕ) (vs : Vals (List ℕ)) (mid : List ℕ) (v : Val (List ℕ)) (new : List ℕ) → ItemsRead i left old vs mid
    → Read left mid v new → ItemsRead (i + 1) left old (add_val vs v) new
items_more i left old vs mid v new p q = (
  p.0 ∙ ap (λ b. vals_bytes vs ++ b) q.0 ∙ sym (append_assoc (vals_bytes vs) (bytes v) new) ∙ ap (λ b. b ++ new) (sym (bytes-add vs v)),
  (spelled-add vs v p.1.0 q.1.0, (omega (arith, depths-add vs v, p.1.1.0, q.1.1), count-add vs v ∙ ap (λ n. n + 1) p.1.1.1)),
)

-- where more values stand in front, one more stands behind the first ones
vals_prefix : {P : Type 0} (vs ws : Vals (List ℕ)) (mid rest : List ℕ) → AllSpelled vs → AllSpelled ws → count vs < count ws → vals_bytes vs
    ++ mid ≡ vals_bytes ws ++ rest
    → ((w : Val (List ℕ)) (more : List ℕ) → Spelled w → depth w ≤ depths ws → sizes vs + size w ≤ sizes ws → mid ≡ bytes w ++ more → P) → P
vals_prefix no_vals no_vals mid rest p q c e go = absurd (omega arith)
vals_prefix no_vals (val w us) mid rest p q c e go =
    go w (vals_bytes us ++ rest) q.0 (omega arith) (omega arith) (e ∙ append_assoc (bytes w) (vals_bytes us) rest)
vals_prefix (val v vs) no_vals mid rest p q c e go = absurd (omega arith)
vals_prefix (val v vs) (val w us) mid rest p q c e go =
    let g = sym (append_assoc (bytes v) (vals_bytes vs) mid) ∙ e ∙ append_assoc (bytes w) (vals_bytes us) rest in
    let h = val_free v w (vals_bytes vs ++ mid) (vals_bytes us ++ rest) p.0 q.0 g in
    let same : size v ≡ size w = ap size h.0 in
    vals_prefix vs us mid rest p.1 q.1 (omega arith) h.1 (λ x more s d z f. go x more s (omega (arith, d)) (omega (arith, z, same)) f)

pub items_none : (i n left room spare : ℕ) (old : List ℕ) (vs : Vals (List ℕ)) (mid : List ℕ) → ItemsRead i left old vs mid
    → spare + sizes vs ≡ room → i < n → NoneRead left spare mid → NoItems n left room old
items_none i n left room spare old vs mid p o h none ws rest s d z c e =
    vals_prefix vs ws mid rest p.1.0 s (omega (arith, p.1.1.1, c)) (sym p.0 ∙ e)
    (λ w more t g y f. none w more t (omega (arith, g, d)) (omega (arith, y, z, o)) f)

-- ---- keys

is_less : (o : Ordering) → is_lt o ≡ true → o ≡ Ordering.Less
is_less Ordering.Less e = refl
is_less Ordering.Equal e = absurd cc
is_less Ordering.Greater e = absurd cc

-- a key above the last one is above the first
above_first : (l : List ℕ) (ps : Pairs (List ℕ)) (k : List ℕ) → RisingFrom l ps → above_from l ps k ≡ true → slice_cmp nat_cmp l k ≡ Ordering.Less
above_first l no_pairs k r a = is_less (slice_cmp nat_cmp l k) a
above_first l (pair m v ps) k r a = nat_list_cmp_total.trans l m k r.0 (above_first m ps k r.1 a)

put_last : (k l : List ℕ) (v w : Val (List ℕ)) (ps : Pairs (List ℕ)) → slice_cmp nat_cmp l k ≡ Ordering.Less → put k v (pair l w ps)
    ≡ pair l w (put k v ps)
put_last k l v w ps h =
    ap (λ o. match_ordering o (pair k v (pair l w ps)) (pair l v ps) (pair l w (put k v ps)))
    (nat_list_cmp_total.antisymm k l ∙ ap ordering_reverse h)

-- ---- a pair put behind the others

abbrev Behind : Pairs (List ℕ) → List ℕ → Val (List ℕ) → Pairs (List ℕ) → Type 0
Behind ps k v qs =
    (pairs_bytes qs ≡ pairs_bytes ps ++ (bytes_of_text k ++ bytes v))
    × ((pair_count qs ≡ pair_count ps + 1) × ((pair_depths qs ≡ max (pair_depths ps) (depth v))
    × ((PairsSpelled ps → IsText k → Spelled v → PairsSpelled qs) × (pair_sizes qs ≡ pair_sizes ps + length k + size v))))

behind_step : (l : List ℕ) (w : Val (List ℕ)) (ps : Pairs (List ℕ)) (k : List ℕ) (v : Val (List ℕ)) (qs : Pairs (List ℕ)) → Behind ps k v qs
    → Behind (pair l w ps) k v (pair l w qs)
behind_step l w ps k v qs b = (
  ap (λ x. bytes_of_text l ++ (bytes w ++ x)) b.0 ∙ sym (pair_bytes (bytes_of_text l) (bytes w) (pairs_bytes ps) (bytes_of_text k ++ bytes v)),
  (
    omega (arith, b.1.0),
    (omega (arith, b.1.1.0), (λ p q r. (p.0, (p.1.0, b.1.1.1.0 p.1.1 q r)), omega (arith, b.1.1.1.1))),
  ),
)

behind_from : (l : List ℕ) (w : Val (List ℕ)) (ps : Pairs (List ℕ)) (k : List ℕ) (v : Val (List ℕ)) → RisingFrom l ps → above_from l ps k ≡ true
    → Behind (pair l w ps) k v (put k v (pair l w ps))
behind_from l w no_pairs k v r a =
    let one : Behind no_pairs k v (pair k v no_pairs) =
    (ap (λ b. bytes_of_text k ++ b) (append-nil (bytes v)), (refl, (omega arith, (λ p q s. (q, (s, tt)), omega arith)))) in
    subst (Behind (pair l w no_pairs) k v) (sym (put_last k l v w no_pairs (above_first l no_pairs k r a)))
    (behind_step l w no_pairs k v (pair k v no_pairs) one)
behind_from l w (pair m u ps) k v r a =
    subst (Behind (pair l w (pair m u ps)) k v) (sym (put_last k l v w (pair m u ps) (above_first l (pair m u ps) k r a)))
    (behind_step l w (pair m u ps) k v (put k v (pair m u ps)) (behind_from m u ps k v r.1 a))

behind : (ps : Pairs (List ℕ)) (k : List ℕ) (v : Val (List ℕ)) → Rising ps → is_above k ps ≡ true → Behind ps k v (put k v ps)
behind no_pairs k v r a = (ap (λ b. bytes_of_text k ++ b) (append-nil (bytes v)), (refl, (omega arith, (λ p q s. (q, (s, tt)), omega arith))))
behind (pair l w ps) k v r a = behind_from l w ps k v r a

pub pairs_start : (left : ℕ) (old : List ℕ) → PairsRead 0 left old no_pairs old
pairs_start left old = (refl, (tt, (tt, (omega arith, refl))))

pub pairs_more : (i left : ℕ) (old : List ℕ) (ps : Pairs (List ℕ)) (mid k inner : List ℕ) (v : Val (List ℕ)) (new : List ℕ)
    → PairsRead i left old ps mid → TextRead mid k inner → is_above k ps ≡ true → Read left inner v new
    → PairsRead (i + 1) left old (put k v ps) new
pairs_more i left old ps mid k inner v new p t a q =
    let b = behind ps k v p.1.1.0 a in (
      p.0 ∙ ap (λ x. pairs_bytes ps ++ x) (t.0 ∙ ap (λ x. bytes_of_text k ++ x) q.0)
          ∙ sym (pair_bytes (pairs_bytes ps) (bytes_of_text k) (bytes v) new) ∙ ap (λ x. x ++ new) (sym b.0),
      (b.1.1.1.0 p.1.0 t.1 q.1.0, (Rising-put k v ps p.1.1.0, (omega (arith, b.1.1.0, p.1.1.1.0, q.1.1), b.1.0 ∙ ap (λ n. n + 1) p.1.1.1.1))),
    )

pub pair_sizes-put : (k : List ℕ) (v : Val (List ℕ)) (ps : Pairs (List ℕ)) → Rising ps → is_above k ps ≡ true → pair_sizes (put k v ps)
    ≡ pair_sizes ps + length k + size v
pair_sizes-put k v ps r a = (behind ps k v r a).1.1.1.1

-- pairs with others behind them
abbrev pub followed : Pairs (List ℕ) → Pairs (List ℕ) → Pairs (List ℕ)
followed no_pairs us = us
followed (pair k v ps) us = pair k v (followed ps us)

followed_depth : (ps : Pairs (List ℕ)) (k : List ℕ) (v : Val (List ℕ)) (us : Pairs (List ℕ)) → depth v ≤ pair_depths (followed ps (pair k v us))
followed_depth no_pairs k v us = omega arith
followed_depth (pair l w ps) k v us = omega (arith, followed_depth ps k v us)

followed_size : (ps : Pairs (List ℕ)) (k : List ℕ) (v : Val (List ℕ)) (us : Pairs (List ℕ)) → pair_sizes ps + (length k + size v)
    ≤ pair_sizes (followed ps (pair k v us))
followed_size no_pairs k v us = omega arith
followed_size (pair l w ps) k v us = omega (arith, followed_size ps k v us)

-- a further pair, whose key is above the last one
abbrev pub Further : Pairs (List ℕ) → Pairs (List ℕ) → List ℕ → Type 0 → Type 0
Further ps qs mid P =
    (k : List ℕ) (v : Val (List ℕ)) (us : Pairs (List ℕ)) (more : List ℕ) → IsText k → Spelled v → is_above k ps ≡ true → mid
    ≡ bytes_of_text k ++ (bytes v ++ more) → qs ≡ followed ps (pair k v us) → P

abbrev FurtherFrom : List ℕ → Pairs (List ℕ) → Pairs (List ℕ) → List ℕ → Type 0 → Type 0
FurtherFrom l ps qs mid P =
    (k : List ℕ) (v : Val (List ℕ)) (us : Pairs (List ℕ)) (more : List ℕ) → IsText k → Spelled v → above_from l ps k ≡ true → mid
    ≡ bytes_of_text k ++ (bytes v ++ more) → qs ≡ followed ps (pair k v us) → P

pairs_from : {P : Type 0} (last : List ℕ) (ps qs : Pairs (List ℕ)) (mid rest : List ℕ) → PairsSpelled ps → PairsSpelled qs → RisingFrom last qs
    → pair_count ps < pair_count qs → pairs_bytes ps ++ mid ≡ pairs_bytes qs ++ rest → FurtherFrom last ps qs mid P → P
pairs_from last no_pairs no_pairs mid rest p q r c e go = absurd (omega arith)
pairs_from last no_pairs (pair k v qs) mid rest p q r c e go =
    go k v qs (pairs_bytes qs ++ rest) q.0 q.1.0 (ap is_lt r.0) (e ∙ pair_bytes (bytes_of_text k) (bytes v) (pairs_bytes qs) rest) refl
pairs_from last (pair l u ps) no_pairs mid rest p q r c e go = absurd (omega arith)
pairs_from last (pair l u ps) (pair k v qs) mid rest p q r c e go =
    let g = sym (pair_bytes (bytes_of_text l) (bytes u) (pairs_bytes ps) mid) ∙ e ∙ pair_bytes (bytes_of_text k) (bytes v) (pairs_bytes qs) rest in
    let j = text_free l k (bytes u ++ (pairs_bytes ps ++ mid)) (bytes v ++ (pairs_bytes qs ++ rest)) p.0 q.0 g in
    let h = val_free u v (pairs_bytes ps ++ mid) (pairs_bytes qs ++ rest) p.1.0 q.1.0 j.1 in
    pairs_from l ps qs mid rest p.1.1 q.1.1 (subst (λ x. RisingFrom x qs) (sym j.0) r.1) (omega arith) h.1
    (λ x w us more t s a f y. go x w us more t s a f (λ i. pair (sym j.0 i) (sym h.0 i) (y i)))

pairs_prefix : {P : Type 0} (ps qs : Pairs (List ℕ)) (mid rest : List ℕ) → PairsSpelled ps → PairsSpelled qs → Rising qs
    → pair_count ps < pair_count qs → pairs_bytes ps ++ mid ≡ pairs_bytes qs ++ rest → Further ps qs mid P → P
pairs_prefix no_pairs no_pairs mid rest p q r c e go = absurd (omega arith)
pairs_prefix no_pairs (pair k v qs) mid rest p q r c e go =
    go k v qs (pairs_bytes qs ++ rest) q.0 q.1.0 refl (e ∙ pair_bytes (bytes_of_text k) (bytes v) (pairs_bytes qs) rest) refl
pairs_prefix (pair l u ps) no_pairs mid rest p q r c e go = absurd (omega arith)
pairs_prefix (pair l u ps) (pair k v qs) mid rest p q r c e go =
    let g = sym (pair_bytes (bytes_of_text l) (bytes u) (pairs_bytes ps) mid) ∙ e ∙ pair_bytes (bytes_of_text k) (bytes v) (pairs_bytes qs) rest in
    let j = text_free l k (bytes u ++ (pairs_bytes ps ++ mid)) (bytes v ++ (pairs_bytes qs ++ rest)) p.0 q.0 g in
    let h = val_free u v (pairs_bytes ps ++ mid) (pairs_bytes qs ++ rest) p.1.0 q.1.0 j.1 in
    pairs_from l ps qs mid rest p.1.1 q.1.1 (subst (λ x. RisingFrom x qs) (sym j.0) r) (omega arith) h.1
    (λ x w us more t s a f y. go x w us more t s a f (λ i. pair (sym j.0 i) (sym h.0 i) (y i)))

-- so where no pair can stand next, not so many stand in front
pub pairs_next : {P : Type 0} (i n left : ℕ) (old : List ℕ) (ps : Pairs (List ℕ)) (mid : List ℕ) → PairsRead i left old ps mid → i < n
    → (qs : Pairs (List ℕ)) (rest : List ℕ) → PairsSpelled qs → Rising qs → pair_count qs ≡ n → old ≡ pairs_bytes qs ++ rest
    → Further ps qs mid P → P
pairs_next i n left old ps mid p h qs rest s r c e go =
    pairs_prefix ps qs mid rest p.1.0 s r (omega (arith, p.1.1.1.1, c)) (sym p.0 ∙ e) go

pub pairs_text : (i n left room spare : ℕ) (old : List ℕ) (ps : Pairs (List ℕ)) (mid : List ℕ) → PairsRead i left old ps mid
    → spare + pair_sizes ps ≡ room → i < n → NoTextWithin spare mid → NoPairs n left room old
pairs_text i n left room spare old ps mid p o h none qs rest s r d z c e =
    pairs_next i n left old ps mid p h qs rest s r c e (λ k v us more t q a f y.
    let sz : pair_sizes (followed ps (pair k v us)) ≤ room = subst (λ x. pair_sizes x ≤ room) y z in
    none k (bytes v ++ more) t (omega (arith, sz, followed_size ps k v us, o)) f)

pub pairs_low : (i n left room : ℕ) (old : List ℕ) (ps : Pairs (List ℕ)) (mid k inner : List ℕ) → PairsRead i left old ps mid → i < n
    → TextRead mid k inner → is_above k ps ≡ false → NoPairs n left room old
pairs_low i n left room old ps mid k inner p h t b qs rest s r d z c e =
    pairs_next i n left old ps mid p h qs rest s r c e (λ l v us more u q a f y.
    let j = text_free k l inner (bytes v ++ more) t.1 u (sym t.0 ∙ f) in
    let no : false ≡ true = sym b ∙ ap (λ x. is_above x ps) j.0 ∙ a in
    absurd cc)

pub pairs_none : (i n left room spare : ℕ) (old : List ℕ) (ps : Pairs (List ℕ)) (mid k inner : List ℕ) → PairsRead i left old ps mid
    → spare + (length k + pair_sizes ps) ≡ room → i < n → TextRead mid k inner → NoneRead left spare inner → NoPairs n left room old
pairs_none i n left room spare old ps mid k inner p o h t none qs rest s r d z c e =
    pairs_next i n left old ps mid p h qs rest s r c e (λ l v us more u q a f y.
    let j = text_free k l inner (bytes v ++ more) t.1 u (sym t.0 ∙ f) in
    let dp : pair_depths (followed ps (pair l v us)) ≤ left = subst (λ x. pair_depths x ≤ left) y d in
    let sz : pair_sizes (followed ps (pair l v us)) ≤ room = subst (λ x. pair_sizes x ≤ room) y z in
    let same : length k ≡ length l = ap length j.0 in
    none v more q (omega (arith, dp, followed_depth ps l v us)) (omega (arith, sz, followed_size ps l v us, same, o)) j.1)

-- the last of the pairs as they are held
above_from-last : (l : List ℕ) (ps : List Pair) (i : ℕ) (p : Pair) (k : List ℕ) → i + 1 ≡ length ps → p ≡ get_or ps i p
    → above_from l (pairs_of ps) k ≡ is_lt (slice_cmp nat_cmp p.key k)
above_from-last l [] i p k h e = absurd (omega arith)
above_from-last l (q ∷ []) zero p k h e = ap (λ x. is_lt (slice_cmp nat_cmp x.key k)) (sym e)
above_from-last l (q ∷ []) (suc i) p k h e = absurd (omega arith)
above_from-last l (q ∷ r ∷ ps) zero p k h e = absurd (omega arith)
above_from-last l (q ∷ r ∷ ps) (suc i) p k h e = above_from-last q.key (r ∷ ps) i p k (omega arith) e

pub is_above-last : (ps : List Pair) (i : ℕ) (p : Pair) (k : List ℕ) → i + 1 ≡ length ps → p ≡ get_or ps i p → is_above k (pairs_of ps)
    ≡ is_lt (slice_cmp nat_cmp p.key k)
is_above-last [] i p k h e = absurd (omega arith)
is_above-last (q ∷ ps) i p k h e = above_from-last [] (q ∷ ps) i p k h e

pub is_above-none : (ps : List Pair) (k : List ℕ) → length ps ≡ 0 → is_above k (pairs_of ps) ≡ true
is_above-none [] k h = refl
is_above-none (q ∷ ps) k h = absurd (omega arith)

pub ruleset lasts = (is_above-last, is_above-none)

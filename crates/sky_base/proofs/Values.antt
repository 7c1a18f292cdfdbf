-- Lists of values, seen through the list that holds them.
use Rattle.std.proofs.Common.{◌≡◌, ℕ, zero, suc, List, [], ◌∷◌, ◌++◌, length, Option, Some, None, refl, ap, get_or, arith, ◌+◌, ◌<◌, ◌≤◌, max}
use Rattle.sky_base.specs.Val.{Val, Vals, no_vals, val, add_val, val_nodes, vals_nodes, pairs_nodes, sizes, depths, size, depth}
use Rattle.std.specs.Ordering.{nat_cmp, match_ordering}
use Rattle.std.specs.Cmp.Lexicographic.{slice_cmp}
use Rattle.std.specs.declared.cmp.Ordering.{Ordering}
use Rattle.sky_base.specs.Val.{count, pair_count, Pairs, no_pairs, pair, pair_sizes, pair_depths}
use Rattle.sky_base.specs.Op.{val_at, join, find}
use Rattle.sky_base.specs.View.{view, vals_of, pairs_of}
use Rattle.sky_base.specs.declared.value.Value.{Value}
use Rattle.sky_base.specs.declared.value.Pair.{Pair}

pub count-vals_of : (vs : List Value) → count (vals_of vs) ≡ length vs
count-vals_of [] = refl
count-vals_of (v ∷ vs) = ap suc (count-vals_of vs)

pub vals_of-push : (vs : List Value) (v : Value) → vals_of (vs ++ v ∷ []) ≡ add_val (vals_of vs) (view v)
vals_of-push [] v = refl
vals_of-push (w ∷ vs) v = ap (val (view w)) (vals_of-push vs v)

pub val_at-here : (vs : List Value) (i : ℕ) (d : Value) → i < length vs → val_at (vals_of vs) i ≡ Some (view (get_or vs i d))
val_at-here [] i d h = absurd (omega arith)
val_at-here (v ∷ vs) zero d h = refl
val_at-here (v ∷ vs) (suc i) d h = val_at-here vs i d (omega arith)

pub val_at-past : (vs : List Value) (i : ℕ) → length vs ≤ i → val_at (vals_of vs) i ≡ None
val_at-past [] i h = refl
val_at-past (v ∷ vs) zero h = absurd (omega arith)
val_at-past (v ∷ vs) (suc i) h = val_at-past vs i (omega arith)

pub count-pairs_of : (ps : List Pair) → pair_count (pairs_of ps) ≡ length ps
count-pairs_of [] = refl
count-pairs_of (p ∷ ps) = ap suc (count-pairs_of ps)

pub ruleset pair_counts = (count-pairs_of, count-pairs_of)

pub ruleset values = (count-vals_of, vals_of-push, val_at-here, val_at-past)

-- a value in a list is smaller than the list
pub value_inside : (vs : List Value) (i : ℕ) (x : Value) → i < length vs → x ≡ get_or vs i x → val_nodes (view x) < vals_nodes (vals_of vs)
value_inside [] i x h e = absurd (omega arith)
value_inside (v ∷ vs) zero x h e = rw e (omega arith)
value_inside (v ∷ vs) (suc i) x h e = omega (arith, value_inside vs i x (omega arith) e)

pub pair_inside : (ps : List Pair) (i : ℕ) (x : Pair) → i < length ps → x ≡ get_or ps i x → val_nodes (view x.value) < pairs_nodes (pairs_of ps)
pair_inside [] i x h e = absurd (omega arith)
pair_inside (p ∷ ps) zero x h e = rw e (omega arith)
pair_inside (p ∷ ps) (suc i) x h e = omega (arith, pair_inside ps i x (omega arith) e)

pub ruleset inside = (value_inside, pair_inside)

pub vals_of-append : (vs ws : List Value) → vals_of (vs ++ ws) ≡ join (vals_of vs) (vals_of ws)
vals_of-append [] ws = refl
vals_of-append (v ∷ vs) ws = ap (val (view v)) (vals_of-append vs ws)

pub join-nil : (vs : Vals (List ℕ)) → join vs no_vals ≡ vs
join-nil no_vals = refl
join-nil (val v vs) = ap (val v) (join-nil vs)

pub join-add : (vs ws : Vals (List ℕ)) (v : Val (List ℕ)) → add_val (join vs ws) v ≡ join vs (add_val ws v)
join-add no_vals ws v = refl
join-add (val u vs) ws v = ap (val u) (join-add vs ws v)

pub sizes-join : (vs ws : Vals (List ℕ)) → sizes (join vs ws) ≡ sizes vs + sizes ws
sizes-join no_vals ws = omega arith
sizes-join (val v vs) ws = omega (arith, sizes-join vs ws)

pub depths-join : (vs ws : Vals (List ℕ)) → depths (join vs ws) ≡ max (depths vs) (depths ws)
depths-join no_vals ws = omega arith
depths-join (val v vs) ws = omega (arith, depths-join vs ws)

pub sizes-add : (vs : Vals (List ℕ)) (v : Val (List ℕ)) → sizes (add_val vs v) ≡ sizes vs + size v
sizes-add no_vals v = omega arith
sizes-add (val u vs) v = omega (arith, sizes-add vs v)

pub depths-add : (vs : Vals (List ℕ)) (v : Val (List ℕ)) → depths (add_val vs v) ≡ max (depths vs) (depth v)
depths-add no_vals v = omega arith
depths-add (val u vs) v = omega (arith, depths-add vs v)

pub ruleset joins = (count-vals_of, vals_of-push, vals_of-append, join-nil, join-add, sizes-join, depths-join, sizes-add, depths-add)

-- ---- a value in a list or in a dictionary is no larger and no deeper

pub size_in : (vs : Vals (List ℕ)) (i : ℕ) (v : Val (List ℕ)) → val_at vs i ≡ Some v → size v ≤ sizes vs
size_in no_vals i v e = absurd cc
size_in (val u vs) zero v e = let f : u ≡ v = cc in rw (← f) (omega arith)
size_in (val u vs) (suc i) v e = omega (arith, size_in vs i v e)

pub depth_in : (vs : Vals (List ℕ)) (i : ℕ) (v : Val (List ℕ)) → val_at vs i ≡ Some v → depth v ≤ depths vs
depth_in no_vals i v e = absurd cc
depth_in (val u vs) zero v e = let f : u ≡ v = cc in rw (← f) (omega arith)
depth_in (val u vs) (suc i) v e = omega (arith, depth_in vs i v e)

find_step : {P : Type 0} (o : Ordering) (u v : Val (List ℕ)) (r : Option (Val (List ℕ))) → match_ordering o None (Some u) r ≡ Some v
    → (u ≡ v → P) → (r ≡ Some v → P) → P
find_step Ordering.Less u v r e f g = absurd cc
find_step Ordering.Equal u v r e f g = f cc
find_step Ordering.Greater u v r e f g = g e

pub size_found : (k : List ℕ) (ps : Pairs (List ℕ)) (v : Val (List ℕ)) → find k ps ≡ Some v → size v ≤ pair_sizes ps
size_found k no_pairs v e = absurd cc
size_found k (pair l u ps) v e =
    find_step (slice_cmp nat_cmp k l) u v (find k ps) e (λ f. rw (← f) (omega arith)) (λ f. omega (arith, size_found k ps v f))

pub depth_found : (k : List ℕ) (ps : Pairs (List ℕ)) (v : Val (List ℕ)) → find k ps ≡ Some v → depth v ≤ pair_depths ps
depth_found k no_pairs v e = absurd cc
depth_found k (pair l u ps) v e =
    find_step (slice_cmp nat_cmp k l) u v (find k ps) e (λ f. rw (← f) (omega arith)) (λ f. omega (arith, depth_found k ps v f))

pub ruleset parts = (size_in, depth_in, size_found, depth_found)

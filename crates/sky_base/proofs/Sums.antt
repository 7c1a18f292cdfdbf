-- How the sum of sizes and the greatest depth change with a list.
use Rattle.std.proofs.Common.{◌≡◌, ℕ, zero, suc, ◌+◌, ◌<◌, ◌≤◌, ◌-◌, ◌^◌, min, max, ◌⊎◌, inl, inr, subst, List, [], ◌∷◌, length, get_or, set, Some}
use Rattle.std.proofs.Common.{refl, ap, arith}
use Rattle.std.specs.List.{insert}
use Rattle.std.specs.Option.{option_map}
use Rattle.sky_base.specs.Val.{val, sizes, depths, size, depth, pair_sizes, pair_depths}
use Rattle.sky_base.specs.Op.{put_val}
use Rattle.sky_base.specs.View.{view, vals_of, pairs_of}
use Rattle.sky_base.specs.Totals.{Totals}
use Rattle.sky_base.specs.declared.value.Total.{Total}
use Rattle.sky_base.specs.declared.value.Value.{Value}
use Rattle.sky_base.specs.declared.value.Pair.{Pair}
use Rattle.sky_base.proofs.Values.{count-vals_of}

pub put_val-set : (vs : List Value) (i : ℕ) (v : Value) → i < length vs → put_val (vals_of vs) i (view v) ≡ Some (vals_of (set vs i v))
put_val-set [] i v h = absurd (omega arith)
put_val-set (w ∷ vs) zero v h = refl
put_val-set (w ∷ vs) (suc i) v h = ap (option_map (val (view w))) (put_val-set vs i v (omega arith))

pub size_at : (vs : List Value) (i : ℕ) (x : Value) → i < length vs → size (view (get_or vs i x)) ≤ sizes (vals_of vs)
size_at [] i x h = absurd (omega arith)
size_at (w ∷ vs) zero x h = omega arith
size_at (w ∷ vs) (suc i) x h = omega (arith, size_at vs i x (omega arith))

pub depth_at : (vs : List Value) (i : ℕ) (x : Value) → i < length vs → depth (view (get_or vs i x)) ≤ depths (vals_of vs)
depth_at [] i x h = absurd (omega arith)
depth_at (w ∷ vs) zero x h = omega arith
depth_at (w ∷ vs) (suc i) x h = omega (arith, depth_at vs i x (omega arith))

-- the sizes after one value gave way to another
pub sizes-set : (vs : List Value) (i : ℕ) (v x : Value) → i < length vs → sizes (vals_of (set vs i v)) + size (view (get_or vs i x))
    ≡ sizes (vals_of vs) + size (view v)
sizes-set [] i v x h = absurd (omega arith)
sizes-set (w ∷ vs) zero v x h = omega arith
sizes-set (w ∷ vs) (suc i) v x h = omega (arith, sizes-set vs i v x (omega arith))

-- the greatest depth after one value gave way to another
pub record DepthChange (before after old new : ℕ) : Type 0 where
  pub most : after ≤ max before new
  pub least : new ≤ after
  pub rest : before ≤ max after old

pub depths-set : (vs : List Value) (i : ℕ) (v x : Value) → i < length vs
    → DepthChange (depths (vals_of vs)) (depths (vals_of (set vs i v))) (depth (view (get_or vs i x))) (depth (view v))
depths-set [] i v x h = absurd (omega arith)
depths-set (w ∷ vs) zero v x h = record { most = omega arith; least = omega arith; rest = omega arith }
depths-set (w ∷ vs) (suc i) v x h =
    let r = depths-set vs i v x (omega arith) in
    record { most = omega arith; least = omega arith; rest = omega arith }

pub ruleset vals_sums = (put_val-set, size_at, sizes-set, depths-set, count-vals_of)

-- ---- the same of pairs

abbrev pub pair_size : Pair → ℕ
pair_size p = length p.key + size (view p.value)

pub pair_size_at : (ps : List Pair) (i : ℕ) (x : Pair) → i < length ps → pair_size (get_or ps i x) ≤ pair_sizes (pairs_of ps)
pair_size_at [] i x h = absurd (omega arith)
pair_size_at (q ∷ ps) zero x h = omega arith
pair_size_at (q ∷ ps) (suc i) x h = omega (arith, pair_size_at ps i x (omega arith))

pub pair_sizes-set : (ps : List Pair) (i : ℕ) (p x : Pair) → i < length ps → pair_sizes (pairs_of (set ps i p)) + pair_size (get_or ps i x)
    ≡ pair_sizes (pairs_of ps) + pair_size p
pair_sizes-set [] i p x h = absurd (omega arith)
pair_sizes-set (q ∷ ps) zero p x h = omega arith
pair_sizes-set (q ∷ ps) (suc i) p x h = omega (arith, pair_sizes-set ps i p x (omega arith))

pub pair_depths-set : (ps : List Pair) (i : ℕ) (p x : Pair) → i < length ps
    → DepthChange (pair_depths (pairs_of ps)) (pair_depths (pairs_of (set ps i p))) (depth (view (get_or ps i x).value)) (depth (view p.value))
pair_depths-set [] i p x h = absurd (omega arith)
pair_depths-set (q ∷ ps) zero p x h = record { most = omega arith; least = omega arith; rest = omega arith }
pair_depths-set (q ∷ ps) (suc i) p x h =
    let r = pair_depths-set ps i p x (omega arith) in
    record { most = omega arith; least = omega arith; rest = omega arith }

pub pair_sizes-insert : (ps : List Pair) (i : ℕ) (p : Pair) → i ≤ length ps → pair_sizes (pairs_of (insert ps i p))
    ≡ pair_sizes (pairs_of ps) + pair_size p
pair_sizes-insert [] zero p h = omega arith
pair_sizes-insert [] (suc i) p h = absurd (omega arith)
pair_sizes-insert (q ∷ ps) zero p h = omega arith
pair_sizes-insert (q ∷ ps) (suc i) p h = omega (arith, pair_sizes-insert ps i p (omega arith))

pub pair_depths-insert : (ps : List Pair) (i : ℕ) (p : Pair) → i ≤ length ps → pair_depths (pairs_of (insert ps i p))
    ≡ max (pair_depths (pairs_of ps)) (depth (view p.value))
pair_depths-insert [] zero p h = omega arith
pair_depths-insert [] (suc i) p h = absurd (omega arith)
pair_depths-insert (q ∷ ps) zero p h = omega arith
pair_depths-insert (q ∷ ps) (suc i) p h = omega (arith, pair_depths-insert ps i p (omega arith))

pub ruleset pairs_sums = (pair_size_at, pair_sizes-set, pair_depths-set, pair_sizes-insert, pair_depths-insert)

-- ---- the totals that are kept, after one item gave way to another

half_depth : (D D' d d' : ℕ) (t o n r : Total) → t.depth ≡ min D (2 ^ 32 - 1) → o.depth ≡ min d (2 ^ 32 - 1) → n.depth ≡ min d' (2 ^ 32 - 1)
    → DepthChange D D' d d' → (o.depth < t.depth) ⊎ (t.depth ≤ n.depth) → r.depth ≡ max t.depth n.depth → r.depth ≡ min D' (2 ^ 32 - 1)
half_depth D D' d d' t o n r a b c e (inl h) f = omega arith
half_depth D D' d d' t o n r a b c e (inr h) f = omega arith

abbrev Resized : Total → Total → Total → Total → Type 0
Resized t o n r = (t.size < 2 ^ 64 - 1) × (r.size ≡ min (t.size - o.size + n.size) (2 ^ 64 - 1))

abbrev Deepened : Total → Total → Total → Total → Type 0
Deepened t o n r = ((o.depth < t.depth) ⊎ (t.depth ≤ n.depth)) × (r.depth ≡ max t.depth n.depth)

replaced : (S S' D D' s s' d d' : ℕ) (t o n r : Total) → Totals S D t → Totals s d o → Totals s' d' n → S' + s ≡ S + s' → s ≤ S
    → DepthChange D D' d d' → Resized t o n r → Deepened t o n r → Totals S' D' r
replaced S S' D D' s s' d d' t o n r a b c e l f g h =
    record { size_is = omega arith; depth_is = half_depth D D' d d' t o n r a.depth_is b.depth_is c.depth_is f h.0 h.1 }

pub vals_replaced : (vs : List Value) (i : ℕ) (v x : Value) (t o n r : Total) → i < length vs → x ≡ get_or vs i x
    → Totals (sizes (vals_of vs)) (depths (vals_of vs)) t → Totals (size (view x)) (depth (view x)) o → Totals (size (view v)) (depth (view v)) n
    → Resized t o n r → Deepened t o n r → Totals (sizes (vals_of (set vs i v))) (depths (vals_of (set vs i v))) r
vals_replaced vs i v x t o n r h e a b c f g =
    let b' = subst (λ y. Totals (size (view y)) (depth (view y)) o) e b in
    replaced _ _ _ _ _ _ _ _ t o n r a b' c (sizes-set vs i v x h) (size_at vs i x h) (depths-set vs i v x h) f g

pub pairs_replaced : (ps : List Pair) (i : ℕ) (p x : Pair) (t o n r : Total) → i < length ps → x ≡ get_or ps i x
    → Totals (pair_sizes (pairs_of ps)) (pair_depths (pairs_of ps)) t → Totals (pair_size x) (depth (view x.value)) o
    → Totals (pair_size p) (depth (view p.value)) n → Resized t o n r → Deepened t o n r
    → Totals (pair_sizes (pairs_of (set ps i p))) (pair_depths (pairs_of (set ps i p))) r
pairs_replaced ps i p x t o n r h e a b c f g =
    let b' = subst (λ y. Totals (pair_size y) (depth (view y.value)) o) e b in
    replaced _ _ _ _ _ _ _ _ t o n r a b' c (pair_sizes-set ps i p x h) (pair_size_at ps i x h) (pair_depths-set ps i p x h) f g

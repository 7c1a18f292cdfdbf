-- How a list and a dictionary change where a value is put into them.
use Rattle.std.proofs.Common.{◌≡◌, ℕ, zero, suc, ◌+◌, ◌<◌, ◌≤◌, max, List, length, Option, Some, None, refl, ap, ◌∙◌, arith, Ok, Err, Bool, true}
use Rattle.std.proofs.Common.{false, nat_lt}
use Rattle.std.proofs.lemmas.Bool.Decides.{nat_tests}
use Rattle.std.specs.Option.{option_map}
use Rattle.std.specs.Ordering.{nat_cmp, match_ordering}
use Rattle.std.specs.Cmp.Lexicographic.{slice_cmp}
use Rattle.std.specs.declared.cmp.Ordering.{Ordering}
use Rattle.sky_base.specs.Val.{Val, Vals, Pairs, no_vals, val, no_pairs, pair, size, sizes, pair_sizes, depth, depths, pair_depths, count, list}
use Rattle.sky_base.specs.Op.{val_at, put_val, find, put, limited, limited_list, unless}
use Rattle.sky_base.specs.Kept.{Kept}
use Rattle.sky_base.specs.declared.fault.FaultKind.{FaultKind}
use Rattle.sky_base.proofs.Values.{size_in, size_found}

-- what is put beside a first value
front : {P : Type 0} (v : Val (List ℕ)) (o : Option (Vals (List ℕ))) (ws : Vals (List ℕ)) → option_map (val v) o ≡ Some ws
    → ((us : Vals (List ℕ)) → o ≡ Some us → val v us ≡ ws → P) → P
front v None ws e f = absurd cc
front v (Some us) ws e f = f us refl cc

-- the list after a value was put at a place where another was
pub record PlaceChange (vs ws : Vals (List ℕ)) (old new : Val (List ℕ)) : Type 0 where
  pub sizes_are : sizes ws + size old ≡ sizes vs + size new
  pub most : depths ws ≤ max (depths vs) (depth new)
  pub least : depth new ≤ depths ws

pub place_change : (vs : Vals (List ℕ)) (i : ℕ) (x e : Val (List ℕ)) (ws : Vals (List ℕ)) → val_at vs i ≡ Some x → put_val vs i e ≡ Some ws
    → PlaceChange vs ws x e
place_change no_vals i x e ws a b = absurd cc
place_change (val v vs) zero x e ws a b =
    let f : v ≡ x = cc in
    let g : val e vs ≡ ws = cc in
    rw (← f, ← g) (record { sizes_are = omega arith; most = omega arith; least = omega arith })
place_change (val v vs) (suc i) x e ws a b =
    front v (put_val vs i e) ws b (λ us h g.
    let r = place_change vs i x e us a h in
    rw (← g) (record { sizes_are = omega arith; most = omega arith; least = omega arith }))

pub record IsPut (vs : Vals (List ℕ)) (i : ℕ) (e : Val (List ℕ)) : Type 0 where
  pub made : Vals (List ℕ)
  pub is : put_val vs i e ≡ Some made

-- a place below the count has a value, and takes another
pub val_within : (vs : Vals (List ℕ)) (i : ℕ) → i < count vs → (x : Val (List ℕ)) × (val_at vs i ≡ Some x)
val_within no_vals i h = absurd (omega arith)
val_within (val v vs) zero h = (v, refl)
val_within (val v vs) (suc i) h = val_within vs i (omega arith)

pub put_within : (vs : Vals (List ℕ)) (i : ℕ) (e : Val (List ℕ)) → i < count vs → IsPut vs i e
put_within no_vals i e h = absurd (omega arith)
put_within (val v vs) zero e h = record { made = val e vs; is = refl }
put_within (val v vs) (suc i) e h =
    let r = put_within vs i e (omega arith) in
    record { made = val v r.made; is = ap (option_map (val v)) r.is }

pub put_past : (vs : Vals (List ℕ)) (i : ℕ) (e : Val (List ℕ)) → count vs ≤ i → put_val vs i e ≡ None
put_past no_vals i e h = refl
put_past (val v vs) zero e h = absurd (omega arith)
put_past (val v vs) (suc i) e h = ap (option_map (val v)) (put_past vs i e (omega arith))

-- ---- the limits

unless_deep : (a b : Bool) (v : Val (List ℕ)) → a ≡ true → unless a b v ≡ Err FaultKind.TooDeep
unless_deep true b v e = refl
unless_deep false b v e = absurd cc

unless_large : (a b : Bool) (v : Val (List ℕ)) → a ≡ false → b ≡ true → unless a b v ≡ Err FaultKind.TooLarge
unless_large true b v e f = absurd cc
unless_large false true v e f = refl
unless_large false false v e f = absurd cc

unless_kept : (a b : Bool) (v : Val (List ℕ)) → a ≡ false → b ≡ false → unless a b v ≡ Ok v
unless_kept true b v e f = absurd cc
unless_kept false true v e f = absurd cc
unless_kept false false v e f = refl

is_below : (a b : ℕ) → a < b → nat_lt a b ≡ true
is_below a b h = grind (arith, nat_tests)

not_below : (a b : ℕ) → b ≤ a → nat_lt a b ≡ false
not_below a b h = grind (arith, nat_tests)

pub limited_deep : (v : Val (List ℕ)) → 100 < depth v → limited v ≡ Err FaultKind.TooDeep
limited_deep v h = unless_deep _ _ v (is_below 100 (depth v) h)

pub limited_large : (v : Val (List ℕ)) → depth v ≤ 100 → 262144 < size v → limited v ≡ Err FaultKind.TooLarge
limited_large v h l = unless_large _ _ v (not_below 100 (depth v) h) (is_below 262144 (size v) l)

pub limited_kept : (v : Val (List ℕ)) → Kept v → limited v ≡ Ok v
limited_kept v k = unless_kept _ _ v (not_below 100 (depth v) k.deep) (not_below 262144 (size v) k.large)

-- `set_at` of a list, in its cases
pub set_deep : (vs : Vals (List ℕ)) (i : ℕ) (e : Val (List ℕ)) → i < count vs → 100 ≤ depth e → limited_list (put_val vs i e) ≡ Err FaultKind.TooDeep
set_deep vs i e h d =
    let x = val_within vs i h in
    let r = put_within vs i e h in
    let c = place_change vs i x.0 e r.made x.1 r.is in
    ap limited_list r.is ∙ limited_deep (list r.made) (omega arith)

pub set_large : (vs : Vals (List ℕ)) (i : ℕ) (e : Val (List ℕ)) → i < count vs → depths vs < 100 → depth e < 100
    → ((ws : Vals (List ℕ)) → put_val vs i e ≡ Some ws → 262144 ≤ sizes ws) → limited_list (put_val vs i e) ≡ Err FaultKind.TooLarge
set_large vs i e h d n l =
    let x = val_within vs i h in
    let r = put_within vs i e h in
    let c = place_change vs i x.0 e r.made x.1 r.is in
    let m = l r.made r.is in
    ap limited_list r.is ∙ limited_large (list r.made) (omega arith) (omega arith)

pub set_kept : (vs : Vals (List ℕ)) (i : ℕ) (e : Val (List ℕ)) (ws : Vals (List ℕ)) → i < count vs → put_val vs i e ≡ Some ws → depths vs < 100
    → depth e < 100 → sizes ws < 262144 → Kept (list ws)
set_kept vs i e ws h p d n l =
    let x = val_within vs i h in
    let c = place_change vs i x.0 e ws x.1 p in
    record { deep = omega arith; large = omega arith }

-- ---- a value put at a key

put_step : (P : Pairs (List ℕ) → Type 0) (o : Ordering) (a b c : Pairs (List ℕ)) → P a → P b → P c → P (match_ordering o a b c)
put_step P Ordering.Less a b c f g h = f
put_step P Ordering.Equal a b c f g h = g
put_step P Ordering.Greater a b c f g h = h

pub record KeyDepth (ps qs : Pairs (List ℕ)) (e : Val (List ℕ)) : Type 0 where
  pub most : pair_depths qs ≤ max (pair_depths ps) (depth e)
  pub least : depth e ≤ pair_depths qs

pub key_depth : (k : List ℕ) (e : Val (List ℕ)) (ps : Pairs (List ℕ)) → KeyDepth ps (put k e ps) e
key_depth k e no_pairs = record { most = omega arith; least = omega arith }
key_depth k e (pair l v ps) =
    let r = key_depth k e ps in
    put_step (λ qs. KeyDepth (pair l v ps) qs e) (slice_cmp nat_cmp k l) _ _ _ (record { most = omega arith; least = omega arith })
    (record { most = omega arith; least = omega arith }) (record { most = omega arith; least = omega arith })

size_step : (o : Ordering) (k l : List ℕ) (e v x : Val (List ℕ)) (ps : Pairs (List ℕ)) → match_ordering o None (Some v) (find k ps) ≡ Some x
    → (find k ps ≡ Some x → pair_sizes (put k e ps) + size x ≡ pair_sizes ps + size e)
    → pair_sizes (match_ordering o (pair k e (pair l v ps)) (pair l e ps) (pair l v (put k e ps))) + size x
    ≡ length l + size v + pair_sizes ps + size e
size_step Ordering.Less k l e v x ps h f = absurd cc
size_step Ordering.Equal k l e v x ps h f = let g : v ≡ x = cc in rw (← g) (omega arith)
size_step Ordering.Greater k l e v x ps h f = omega (arith, f h)

-- the sizes where a key that was there has another value
pub sizes-put_over : (k : List ℕ) (e x : Val (List ℕ)) (ps : Pairs (List ℕ)) → find k ps ≡ Some x → pair_sizes (put k e ps) + size x
    ≡ pair_sizes ps + size e
sizes-put_over k e x no_pairs h = absurd cc
sizes-put_over k e x (pair l v ps) h = size_step (slice_cmp nat_cmp k l) k l e v x ps h (sizes-put_over k e x ps)

new_step : (o : Ordering) (k l : List ℕ) (e v : Val (List ℕ)) (ps : Pairs (List ℕ)) → match_ordering o None (Some v) (find k ps) ≡ None
    → (find k ps ≡ None → pair_sizes (put k e ps) ≡ pair_sizes ps + length k + size e)
    → pair_sizes (match_ordering o (pair k e (pair l v ps)) (pair l e ps) (pair l v (put k e ps)))
    ≡ length l + size v + pair_sizes ps + length k + size e
new_step Ordering.Less k l e v ps h f = omega arith
new_step Ordering.Equal k l e v ps h f = absurd cc
new_step Ordering.Greater k l e v ps h f = omega (arith, f h)

-- the sizes where a key is new
pub sizes-put_new : (k : List ℕ) (e : Val (List ℕ)) (ps : Pairs (List ℕ)) → find k ps ≡ None → pair_sizes (put k e ps)
    ≡ pair_sizes ps + length k + size e
sizes-put_new k e no_pairs h = omega arith
sizes-put_new k e (pair l v ps) h = new_step (slice_cmp nat_cmp k l) k l e v ps h (sizes-put_new k e ps)

pub ruleset places = (put_past, put_past)

pub ruleset other_places = (size_in, size_in)

pub ruleset keys = (key_depth, limited_deep, limited_large, limited_kept)

pub ruleset other_keys = (size_found, sizes-put_over, sizes-put_new)

-- Lists and dictionaries that are filled in from their fronts.
use Rattle.std.proofs.Common.{◌≡◌, ◌≤◌, ◌<◌, ℕ, zero, suc, ◌+◌, List, [], ◌∷◌, length, drop, Result, Ok, Err, slice_index_or, refl, sym, ap, subst}
use Rattle.std.proofs.Common.{◌∙◌, arith}
use Rattle.std.specs.Ordering.{nat_cmp, match_ordering, ordering_reverse}
use Rattle.std.specs.Cmp.Lexicographic.{slice_cmp}
use Rattle.std.specs.declared.cmp.Ordering.{Ordering}
use Rattle.std.proofs.lemmas.Cmp.{nat_list_cmp_total}
use Rattle.sky_base.specs.Val.{Val, Vals, Pairs, Desc, no_vals, val, no_pairs, pair, add_val, Rising, RisingFrom}
use Rattle.sky_base.specs.Op.{join, put}
use Rattle.sky_base.specs.View.{view, vals_of, pairs_of}
use Rattle.sky_base.specs.declared.value.Value.{Value}
use Rattle.sky_base.specs.declared.value.Pair.{Pair}
use Rattle.sky_base.specs.declared.fault.Fault.{Fault}
use Rattle.sky_base_waves.specs.Wave.{fill, fill_vals, fill_pairs, on_val, on_pair}

module _ {N : Type 0} where
  -- what comes behind a front that is filled in
  abbrev pub behind : Vals N → Result (Vals N) Fault → Result (Vals N) Fault
  behind front (Err f) = Err f
  behind front (Ok vs) = Ok (join front vs)

  pub joined_one : (us : Vals N) (v : Val N) (vs : Vals N) → join (add_val us v) vs ≡ join us (val v vs)
  joined_one no_vals v vs = refl
  joined_one (val u us) v vs = ap (val u) (joined_one us v vs)

  behind_one : (front : Vals N) (v : Val N) (r : Result (Vals N) Fault) → behind (add_val front v) r ≡ behind front (on_val (Ok v) r)
  behind_one front v (Err f) = refl
  behind_one front v (Ok vs) = ap Ok (joined_one front v vs)

  pub join_none : (us : Vals N) → join us no_vals ≡ us
  join_none no_vals = refl
  join_none (val u us) = ap (val u) (join_none us)

  abbrev pub joined : Pairs N → Pairs N → Pairs N
  joined no_pairs qs = qs
  joined (pair k v ps) qs = pair k v (joined ps qs)

  abbrev pub behind_pairs : Pairs N → Result (Pairs N) Fault → Result (Pairs N) Fault
  behind_pairs front (Err f) = Err f
  behind_pairs front (Ok ps) = Ok (joined front ps)

  pub joined_none : (ps : Pairs N) → joined ps no_pairs ≡ ps
  joined_none no_pairs = refl
  joined_none (pair k v ps) = ap (pair k v) (joined_none ps)

abbrev pub Filling : Type 0
Filling = Desc (List ℕ) → Result (Val (List ℕ)) Fault

pub behind-start : (r : Result (Vals (List ℕ)) Fault) → behind no_vals r ≡ r
behind-start (Err f) = refl
behind-start (Ok vs) = refl

suc_is : (i : ℕ) → suc i ≡ i + 1
suc_is i = omega arith

next_suc : (g : Filling) (xs : List Value) (i : ℕ) (x : Value) → i < length xs → x ≡ slice_index_or xs i x → fill_vals g (vals_of (drop i xs))
    ≡ on_val (fill g (view x)) (fill_vals g (vals_of (drop (suc i) xs)))
next_suc g [] i x h e = absurd (omega (arith, h))
next_suc g (y ∷ xs) zero x h e = ap (λ z. on_val (fill g (view z)) (fill_vals g (vals_of xs))) (sym e)
next_suc g (y ∷ xs) (suc i) x h e = next_suc g xs i x (omega (arith, h)) e

next_val : (g : Filling) (xs : List Value) (i : ℕ) (x : Value) → i < length xs → x ≡ slice_index_or xs i x → fill_vals g (vals_of (drop i xs))
    ≡ on_val (fill g (view x)) (fill_vals g (vals_of (drop (i + 1) xs)))
next_val g xs i x h e =
    next_suc g xs i x h e ∙ ap (λ k. on_val (fill g (view x)) (fill_vals g (vals_of (drop k xs)))) (suc_is i)

pub fill-step : (g : Filling) (front : Vals (List ℕ)) (xs : List Value) (i : ℕ) (x : Value) (v : Val (List ℕ)) → i < length xs → x
    ≡ slice_index_or xs i x → fill g (view x) ≡ Ok v → behind front (fill_vals g (vals_of (drop i xs)))
    ≡ behind (add_val front v) (fill_vals g (vals_of (drop (i + 1) xs)))
fill-step g front xs i x v h e f =
    ap (behind front) (next_val g xs i x h e ∙ ap (λ r. on_val r (fill_vals g (vals_of (drop (i + 1) xs)))) f)
    ∙ sym (behind_one front v (fill_vals g (vals_of (drop (i + 1) xs))))

pub fill-fault : (g : Filling) (front : Vals (List ℕ)) (xs : List Value) (i : ℕ) (x : Value) (e : Fault) → i < length xs → x
    ≡ slice_index_or xs i x → fill g (view x) ≡ Err e → behind front (fill_vals g (vals_of (drop i xs))) ≡ Err e
fill-fault g front xs i x e h q f =
    ap (behind front) (next_val g xs i x h q ∙ ap (λ r. on_val r (fill_vals g (vals_of (drop (i + 1) xs)))) f)

pub fill-done : (g : Filling) (front : Vals (List ℕ)) (xs : List Value) (i : ℕ) → length xs ≤ i
    → behind front (fill_vals g (vals_of (drop i xs))) ≡ Ok front
fill-done g front [] zero h = ap Ok (join_none front)
fill-done g front [] (suc i) h = ap Ok (join_none front)
fill-done g front (x ∷ xs) zero h = absurd (omega (arith, h))
fill-done g front (x ∷ xs) (suc i) h = fill-done g front xs i (omega (arith, h))

-- ---- dictionaries: the keys rise, so each pair is put behind the others

-- each key of the front is below the first of the rest
abbrev pub AllBelow : Pairs (List ℕ) → List ℕ → Type 0
AllBelow no_pairs k = Unit {0}
AllBelow (pair j v ps) k = (slice_cmp nat_cmp j k ≡ Ordering.Less) × AllBelow ps k

abbrev pub Meets : Pairs (List ℕ) → Pairs (List ℕ) → Type 0
Meets front no_pairs = Unit {0}
Meets front (pair k v ps) = AllBelow front k × RisingFrom k ps

above : (j k : List ℕ) → slice_cmp nat_cmp j k ≡ Ordering.Less → slice_cmp nat_cmp k j ≡ Ordering.Greater
above j k h = nat_list_cmp_total.antisymm k j ∙ ap ordering_reverse h

abbrev pub add_pair : Pairs (List ℕ) → List ℕ → Val (List ℕ) → Pairs (List ℕ)
add_pair ps k v = joined ps (pair k v no_pairs)

pub put_end : (front : Pairs (List ℕ)) (k : List ℕ) (v : Val (List ℕ)) → AllBelow front k → put k v front ≡ add_pair front k v
put_end no_pairs k v h = refl
put_end (pair j w ps) k v h =
    ap (λ o. match_ordering o (pair k v (pair j w ps)) (pair j v ps) (pair j w (put k v ps))) (above j k h.0) ∙ ap (pair j w) (put_end ps k v h.1)

below_more : (front : Pairs (List ℕ)) (k l : List ℕ) → AllBelow front k → slice_cmp nat_cmp k l ≡ Ordering.Less → AllBelow front l
below_more no_pairs k l h e = tt
below_more (pair j w ps) k l h e = (nat_list_cmp_total.trans j k l h.0 e, below_more ps k l h.1 e)

below_end : (front : Pairs (List ℕ)) (k l : List ℕ) (v : Val (List ℕ)) → AllBelow front k → slice_cmp nat_cmp k l ≡ Ordering.Less
    → AllBelow (add_pair front k v) l
below_end no_pairs k l v h e = (e, tt)
below_end (pair j w ps) k l v h e = (nat_list_cmp_total.trans j k l h.0 e, below_end ps k l v h.1 e)

pub meets_end : (front : Pairs (List ℕ)) (k : List ℕ) (v w : Val (List ℕ)) (ps : Pairs (List ℕ)) → Meets front (pair k v ps)
    → Meets (add_pair front k w) ps
meets_end front k v w no_pairs h = tt
meets_end front k v w (pair l u ps) h = (below_end front k l w h.0 h.1.0, h.1.1)

pub joined_pair : (front : Pairs (List ℕ)) (k : List ℕ) (v : Val (List ℕ)) (ps : Pairs (List ℕ)) → joined (add_pair front k v) ps
    ≡ joined front (pair k v ps)
joined_pair no_pairs k v ps = refl
joined_pair (pair j w qs) k v ps = ap (pair j w) (joined_pair qs k v ps)

behind_pair : (front : Pairs (List ℕ)) (k : List ℕ) (v : Val (List ℕ)) (r : Result (Pairs (List ℕ)) Fault) → behind_pairs (add_pair front k v) r
    ≡ behind_pairs front (on_pair k (Ok v) r)
behind_pair front k v (Err f) = refl
behind_pair front k v (Ok ps) = ap Ok (joined_pair front k v ps)

pub pairs-start : (r : Result (Pairs (List ℕ)) Fault) → behind_pairs no_pairs r ≡ r
pairs-start (Err f) = refl
pairs-start (Ok ps) = refl

pub meets-start : (ps : List Pair) → Rising (pairs_of ps) → Meets no_pairs (pairs_of (drop 0 ps))
meets-start [] h = tt
meets-start (p ∷ ps) h = (tt, h)

-- where the i-th pair is next
record Next (g : Filling) (front : Pairs (List ℕ)) (xs : List Pair) (i k : ℕ) (x : Pair) : Type 0 where
  fills : fill_pairs g (pairs_of (drop i xs)) ≡ on_pair x.key (fill g (view x.value)) (fill_pairs g (pairs_of (drop k xs)))
  is : pairs_of (drop i xs) ≡ pair x.key (view x.value) (pairs_of (drop k xs))

next_at : (g : Filling) (front : Pairs (List ℕ)) (xs : List Pair) (i : ℕ) (x : Pair) → i < length xs → x ≡ slice_index_or xs i x
    → Next g front xs i (suc i) x
next_at g front [] i x h e = absurd (omega (arith, h))
next_at g front (y ∷ xs) zero x h e =
    record {
      fills = ap (λ z. on_pair z.key (fill g (view z.value)) (fill_pairs g (pairs_of xs))) (sym e);
      is = ap (λ z. pair z.key (view z.value) (pairs_of xs)) (sym e);
    }
next_at g front (y ∷ xs) (suc i) x h e = again (next_at g front xs i x (omega (arith, h)) e)
  where
    again : Next g front xs i (suc i) x → Next g front (y ∷ xs) (suc i) (suc (suc i)) x
    again n = record { fills = n.fills; is = n.is }

next_pair : (g : Filling) (front : Pairs (List ℕ)) (xs : List Pair) (i : ℕ) (x : Pair) → i < length xs → x ≡ slice_index_or xs i x
    → Next g front xs i (i + 1) x
next_pair g front xs i x h e = subst (λ k. Next g front xs i k x) (suc_is i) (next_at g front xs i x h e)

pub pair-step : (g : Filling) (front : Pairs (List ℕ)) (xs : List Pair) (i : ℕ) (x : Pair) (v : Val (List ℕ)) → i < length xs → x
    ≡ slice_index_or xs i x → Meets front (pairs_of (drop i xs)) → fill g (view x.value) ≡ Ok v
    → behind_pairs front (fill_pairs g (pairs_of (drop i xs))) ≡ behind_pairs (put x.key v front) (fill_pairs g (pairs_of (drop (i + 1) xs)))
pair-step g front xs i x v h e m f = go (next_pair g front xs i x h e)
  where
    go : Next g front xs i (i + 1) x → behind_pairs front (fill_pairs g (pairs_of (drop i xs)))
        ≡ behind_pairs (put x.key v front) (fill_pairs g (pairs_of (drop (i + 1) xs)))
    go n =
        let at : Meets front (pair x.key (view x.value) (pairs_of (drop (i + 1) xs))) = subst (Meets front) n.is m in
        ap (behind_pairs front) (n.fills ∙ ap (λ r. on_pair x.key r (fill_pairs g (pairs_of (drop (i + 1) xs)))) f)
        ∙ sym (behind_pair front x.key v (fill_pairs g (pairs_of (drop (i + 1) xs))))
        ∙ ap (λ q. behind_pairs q (fill_pairs g (pairs_of (drop (i + 1) xs)))) (sym (put_end front x.key v at.0))

pub meets-step : (g : Filling) (front : Pairs (List ℕ)) (xs : List Pair) (i : ℕ) (x : Pair) (v : Val (List ℕ)) → i < length xs → x
    ≡ slice_index_or xs i x → Meets front (pairs_of (drop i xs)) → Meets (put x.key v front) (pairs_of (drop (i + 1) xs))
meets-step g front xs i x v h e m = go (next_pair g front xs i x h e)
  where
    go : Next g front xs i (i + 1) x → Meets (put x.key v front) (pairs_of (drop (i + 1) xs))
    go n =
        let at : Meets front (pair x.key (view x.value) (pairs_of (drop (i + 1) xs))) = subst (Meets front) n.is m in
        subst (λ q. Meets q (pairs_of (drop (i + 1) xs))) (sym (put_end front x.key v at.0))
        (meets_end front x.key (view x.value) v (pairs_of (drop (i + 1) xs)) at)

pub pair-fault : (g : Filling) (front : Pairs (List ℕ)) (xs : List Pair) (i : ℕ) (x : Pair) (e : Fault) → i < length xs → x
    ≡ slice_index_or xs i x → fill g (view x.value) ≡ Err e → behind_pairs front (fill_pairs g (pairs_of (drop i xs))) ≡ Err e
pair-fault g front xs i x e h q f =
    ap (behind_pairs front) ((next_pair g front xs i x h q).fills ∙ ap (λ r. on_pair x.key r (fill_pairs g (pairs_of (drop (i + 1) xs)))) f)

pub pairs-done : (g : Filling) (front : Pairs (List ℕ)) (xs : List Pair) (i : ℕ) → length xs ≤ i
    → behind_pairs front (fill_pairs g (pairs_of (drop i xs))) ≡ Ok front
pairs-done g front [] zero h = ap Ok (joined_none front)
pairs-done g front [] (suc i) h = ap Ok (joined_none front)
pairs-done g front (x ∷ xs) zero h = absurd (omega (arith, h))
pairs-done g front (x ∷ xs) (suc i) h = pairs-done g front xs i (omega (arith, h))

pub ruleset fills = (behind-start, fill-step, fill-fault, fill-done, pairs-start, meets-start, pair-step, meets-step, pair-fault, pairs-done)

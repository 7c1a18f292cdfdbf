-- Slots in the place of references.
use Rattle.std.proofs.Common.{◌≡◌, ◌≤◌, ◌<◌, ℕ, ◌+◌, List, ◌∷◌, ◌++◌, length, drop, slice_index_or, sym, ap, subst, ◌∙◌, arith}
use Rattle.std.proofs.lemmas.List.{length-append, at_drop_all}
use Rattle.sky_base.specs.Val.{Val, Vals, Pairs, null, truth, num, text, list, dict, fun, ref, no_vals, val, no_pairs, pair, add_val, size, sizes}
use Rattle.sky_base.specs.Val.{pair_sizes, refs, vals_refs, pairs_refs}
use Rattle.sky_base.specs.Kept.{Kept}
use Rattle.sky_base.specs.Op.{join, put}
use Rattle.sky_base.specs.See.{replaced, vals_replaced, pairs_replaced}
use Rattle.sky_base.specs.View.{view, vals_of, pairs_of}
use Rattle.sky_base.specs.declared.value.Value.{Value}
use Rattle.sky_base.specs.declared.value.Pair.{Pair}
use Rattle.sky_base_waves.proofs.Fills.{joined, joined_one, join_none, joined_none, joined_pair, put_end, Meets, meets_end}
use Rattle.sky_base_exec.specs.Perform.{in_slot}
use Rattle.sky_base_exec.proofs.Takes.{at_next}

-- ---- there are no more references than the size of a value

mutual
  few_refs : (v : Val (List ℕ)) → length (refs v) ≤ size v
  few_refs null = omega arith
  few_refs (truth b) = omega arith
  few_refs (num z) = omega arith
  few_refs (text t) = omega arith
  few_refs (list vs) = let h : length (vals_refs vs) ≤ sizes vs = few_vals vs in omega (arith, h)
  few_refs (dict ps) = let h : length (pairs_refs ps) ≤ pair_sizes ps = few_pairs ps in omega (arith, h)
  few_refs (fun f c) = let h : length (pairs_refs c) ≤ pair_sizes c = few_pairs c in omega (arith, h)
  few_refs (ref d) = omega arith

  few_vals : (vs : Vals (List ℕ)) → length (vals_refs vs) ≤ sizes vs
  few_vals no_vals = omega arith
  few_vals (val v vs) =
      let h : length (refs v) ≤ size v = few_refs v in
      let k : length (vals_refs vs) ≤ sizes vs = few_vals vs in
      let e : length (refs v ++ vals_refs vs) ≡ length (refs v) + length (vals_refs vs) = length-append (refs v) (vals_refs vs) in
      omega (arith, h, k, e)

  few_pairs : (ps : Pairs (List ℕ)) → length (pairs_refs ps) ≤ pair_sizes ps
  few_pairs no_pairs = omega arith
  few_pairs (pair k v ps) =
      let h : length (refs v) ≤ size v = few_refs v in
      let g : length (pairs_refs ps) ≤ pair_sizes ps = few_pairs ps in
      let e : length (refs v ++ pairs_refs ps) ≡ length (refs v) + length (pairs_refs ps) = length-append (refs v) (pairs_refs ps) in
      omega (arith, h, g, e)

pub few-kept : (v : Val (List ℕ)) → Kept v → length (refs v) ≤ 262144
few-kept v kept = let h : length (refs v) ≤ size v = few_refs v in let l : size v ≤ 262144 = kept.large in omega (arith, h, l)

-- ---- how many references are left

pub vals_left : (xs : List Value) (i : ℕ) (x : Value) → i < length xs → x ≡ slice_index_or xs i x → length (vals_refs (vals_of (drop i xs)))
    ≡ length (refs (view x)) + length (vals_refs (vals_of (drop (i + 1) xs)))
vals_left xs i x h e = at_next (λ ys. length (vals_refs (vals_of ys))) xs i x h e
    ∙ length-append (refs (view x)) (vals_refs (vals_of (drop (i + 1) xs)))

pub pairs_left : (xs : List Pair) (i : ℕ) (x : Pair) → i < length xs → x ≡ slice_index_or xs i x → length (pairs_refs (pairs_of (drop i xs)))
    ≡ length (refs (view x.value)) + length (pairs_refs (pairs_of (drop (i + 1) xs)))
pairs_left xs i x h e = at_next (λ ys. length (pairs_refs (pairs_of ys))) xs i x h e
    ∙ length-append (refs (view x.value)) (pairs_refs (pairs_of (drop (i + 1) xs)))

pub no-vals-left : (xs : List Value) (i : ℕ) → length xs ≤ i → length (vals_refs (vals_of (drop i xs))) ≡ 0
no-vals-left xs i h = at_drop_all (λ ys. length (vals_refs (vals_of ys))) xs i h

pub no-pairs-left : (xs : List Pair) (i : ℕ) → length xs ≤ i → length (pairs_refs (pairs_of (drop i xs))) ≡ 0
no-pairs-left xs i h = at_drop_all (λ ys. length (pairs_refs (pairs_of ys))) xs i h

-- ---- a front with slots, and what is left

pub vals_step : (front : Vals (List ℕ)) (n : ℕ) (xs : List Value) (i : ℕ) (x : Value) → i < length xs → x ≡ slice_index_or xs i x
    → join front (vals_replaced in_slot n (vals_of (drop i xs)))
    ≡ join (add_val front (replaced in_slot n (view x))) (vals_replaced in_slot (n + length (refs (view x))) (vals_of (drop (i + 1) xs)))
vals_step front n xs i x h e =
    at_next (λ ys. join front (vals_replaced in_slot n (vals_of ys))) xs i x h e
    ∙ sym (joined_one front (replaced in_slot n (view x)) (vals_replaced in_slot (n + length (refs (view x))) (vals_of (drop (i + 1) xs))))

pub vals-done : (front : Vals (List ℕ)) (n : ℕ) (xs : List Value) (i : ℕ) → length xs ≤ i
    → join front (vals_replaced in_slot n (vals_of (drop i xs))) ≡ front
vals-done front n xs i h = at_drop_all (λ ys. join front (vals_replaced in_slot n (vals_of ys))) xs i h ∙ join_none front

-- where the keys of the front are below what is left, they are below the next
meets_at : (front : Pairs (List ℕ)) (xs : List Pair) (i : ℕ) (x : Pair) → i < length xs → x ≡ slice_index_or xs i x
    → Meets front (pairs_of (drop i xs)) → Meets front (pairs_of (x ∷ drop (i + 1) xs))
meets_at front xs i x h e m = subst (Meets front) (at_next pairs_of xs i x h e) m

pub pairs_step : (front : Pairs (List ℕ)) (n : ℕ) (xs : List Pair) (i : ℕ) (x : Pair) → i < length xs → x ≡ slice_index_or xs i x
    → Meets front (pairs_of (drop i xs)) → joined front (pairs_replaced in_slot n (pairs_of (drop i xs)))
    ≡ joined (put x.key (replaced in_slot n (view x.value)) front)
    (pairs_replaced in_slot (n + length (refs (view x.value))) (pairs_of (drop (i + 1) xs)))
pairs_step front n xs i x h e m =
    at_next (λ ys. joined front (pairs_replaced in_slot n (pairs_of ys))) xs i x h e
    ∙ sym (joined_pair front x.key (replaced in_slot n (view x.value)) rest)
    ∙ ap (λ q. joined q rest) (sym (put_end front x.key (replaced in_slot n (view x.value)) (meets_at front xs i x h e m).0))
  where
    rest : Pairs (List ℕ)
    rest = pairs_replaced in_slot (n + length (refs (view x.value))) (pairs_of (drop (i + 1) xs))

pub pairs-done : (front : Pairs (List ℕ)) (n : ℕ) (xs : List Pair) (i : ℕ) → length xs ≤ i
    → joined front (pairs_replaced in_slot n (pairs_of (drop i xs))) ≡ front
pairs-done front n xs i h = at_drop_all (λ ys. joined front (pairs_replaced in_slot n (pairs_of ys))) xs i h ∙ joined_none front

pub meets_step : (front : Pairs (List ℕ)) (xs : List Pair) (i : ℕ) (x : Pair) (v : Val (List ℕ)) → i < length xs → x ≡ slice_index_or xs i x
    → Meets front (pairs_of (drop i xs)) → Meets (put x.key v front) (pairs_of (drop (i + 1) xs))
meets_step front xs i x v h e m =
    let at : Meets front (pairs_of (x ∷ drop (i + 1) xs)) = meets_at front xs i x h e m in
    subst (λ q. Meets q (pairs_of (drop (i + 1) xs))) (sym (put_end front x.key v at.0))
    (meets_end front x.key (view x.value) v (pairs_of (drop (i + 1) xs)) at)

pub ruleset few = (few-kept)

pub ruleset slotting = (vals-done, pairs-done, no-vals-left, no-pairs-left)

-- Variables within the limits.
use Rattle.std.proofs.Common.{◌≡◌, ℕ, zero, suc, ◌≤◌, List, Option, Some, None, refl, sym, ap, ◌∙◌, subst, arith, ◌+◌, [], ◌∷◌, true, false, drop}
use Rattle.std.proofs.Common.{length}
use Rattle.std.specs.Ordering.{nat_cmp, match_ordering}
use Rattle.std.specs.Cmp.Lexicographic.{slice_cmp}
use Rattle.std.specs.declared.cmp.Ordering.{Ordering}
use Rattle.std.proofs.lemmas.Cmp.{nat_list_cmp_total, tied_itself}
use Rattle.sky_base.specs.Val.{null, num, truth, text, list, dict, fun, ref, no_vals, val, no_pairs, pair}
use Rattle.sky_base.specs.Op.{find, put, val_at, grown, append, plus}
use Rattle.sky_base.specs.Eval.{bind, left}
use Rattle.sky_base.specs.Kept.{Kept}
use Rattle.sky_base_scope.specs.Plain.{Val, Vals, Pairs}
use Rattle.sky_base_scope.specs.RunView.{KeptVals, KeptPairs, is_list}

pub kept_null : Kept {N = List ℕ} null
kept_null = record { deep = omega arith; large = omega arith }

found_step : {P : Type 0} (o : Ordering) (u v : Val) (r : Option Val) → match_ordering o None (Some u) r ≡ Some v → (u ≡ v → P) → (r ≡ Some v → P) → P
found_step Ordering.Less u v r e f g = absurd cc
found_step Ordering.Equal u v r e f g = f cc
found_step Ordering.Greater u v r e f g = g e

pub kept_found : (k : List ℕ) (ps : Pairs) (v : Val) → find k ps ≡ Some v → KeptPairs ps → Kept v
kept_found k no_pairs v e h = absurd cc
kept_found k (pair l u ps) v e h =
    found_step (slice_cmp nat_cmp k l) u v (find k ps) e (λ f. subst (λ x. Kept x) f h.0) (λ f. kept_found k ps v f h.1)

put_step : (o : Ordering) (k l : List ℕ) (v w : Val) (ps qs : Pairs) → Kept v → Kept w → KeptPairs ps → KeptPairs qs
    → KeptPairs (match_ordering o (pair k v (pair l w ps)) (pair l v ps) (pair l w qs))
put_step Ordering.Less k l v w ps qs a b c d = (a, (b, c))
put_step Ordering.Equal k l v w ps qs a b c d = (a, c)
put_step Ordering.Greater k l v w ps qs a b c d = (b, d)

pub kept_put : (k : List ℕ) (v : Val) (ps : Pairs) → Kept v → KeptPairs ps → KeptPairs (put k v ps)
kept_put k v no_pairs a h = (a, tt)
kept_put k v (pair l w ps) a h =
    put_step (slice_cmp nat_cmp k l) k l v w ps (put k v ps) a h.0 h.1 (kept_put k v ps a h.1)

again_step : (o : Ordering) (k l : List ℕ) (u v w : Val) (ps qs rs : Pairs) → slice_cmp nat_cmp k l ≡ o → put k v qs ≡ rs
    → put k v (match_ordering o (pair k u (pair l w ps)) (pair l u ps) (pair l w qs))
    ≡ match_ordering o (pair k v (pair l w ps)) (pair l v ps) (pair l w rs)
again_step Ordering.Less k l u v w ps qs rs e f =
    ap (λ o. match_ordering o (pair k v (pair k u (pair l w ps))) (pair k v (pair l w ps)) (pair k u (put k v (pair l w ps))))
    (tied_itself nat_list_cmp_total k)
again_step Ordering.Equal k l u v w ps qs rs e f = ap (λ o. match_ordering o (pair k v (pair l u ps)) (pair l v ps) (pair l u (put k v ps))) e
again_step Ordering.Greater k l u v w ps qs rs e f =
    ap (λ o. match_ordering o (pair k v (pair l w qs)) (pair l v qs) (pair l w (put k v qs))) e ∙ ap (pair l w) f

-- what is put last at a key stands
pub put_again : (k : List ℕ) (u v : Val) (ps : Pairs) → put k v (put k u ps) ≡ put k v ps
put_again k u v no_pairs = ap (λ o. match_ordering o (pair k v (pair k u no_pairs)) (pair k v no_pairs) (pair k u (put k v no_pairs)))
    (tied_itself nat_list_cmp_total k)
put_again k u v (pair l w ps) = again_step (slice_cmp nat_cmp k l) k l u v w ps (put k u ps) (put k v ps) refl (put_again k u v ps)

same_step : (o : Ordering) (k l : List ℕ) (u v : Val) (ps qs : Pairs) (r : Option Val) → match_ordering o None (Some u) r ≡ Some v
    → (r ≡ Some v → qs ≡ ps) → match_ordering o (pair k v (pair l u ps)) (pair l v ps) (pair l u qs) ≡ pair l u ps
same_step Ordering.Less k l u v ps qs r e h = absurd cc
same_step Ordering.Equal k l u v ps qs r e h = let f : u ≡ v = cc in ap (λ x. pair l x ps) (sym f)
same_step Ordering.Greater k l u v ps qs r e h = ap (λ xs. pair l u xs) (h e)

-- to put what stands there changes nothing
pub put_same : (k : List ℕ) (v : Val) (ps : Pairs) → find k ps ≡ Some v → put k v ps ≡ ps
put_same k v no_pairs e = absurd cc
put_same k v (pair l u ps) e =
    same_step (slice_cmp nat_cmp k l) k l u v ps (put k v ps) (find k ps) e (λ f. put_same k v ps f)

pub kept_at : (vs : Vals) (i : ℕ) (v : Val) → val_at vs i ≡ Some v → KeptVals vs → Kept v
kept_at no_vals i v e h = absurd cc
kept_at (val u vs) zero v e h = let f : u ≡ v = cc in subst (λ x. Kept x) f h.0
kept_at (val u vs) (suc i) v e h = kept_at vs i v e h.1

pub kept_parts : (vs : Vals) → Kept (list vs) → KeptVals vs
kept_parts no_vals h = tt
kept_parts (val v vs) h = (
  record { deep = omega (arith, h.deep); large = omega (arith, h.large) },
  kept_parts vs (record { deep = omega (arith, h.deep); large = omega (arith, h.large) }),
)

pub kept_pairs : (ps : Pairs) → Kept (dict ps) → KeptPairs ps
kept_pairs no_pairs h = tt
kept_pairs (pair k v ps) h = (
  record { deep = omega (arith, h.deep); large = omega (arith, h.large) },
  kept_pairs ps (record { deep = omega (arith, h.deep); large = omega (arith, h.large) }),
)

-- what a function captured
pub kept_caught : (f : List ℕ) (ps : Pairs) → Kept (fun f ps) → KeptPairs ps
kept_caught f ps h =
    kept_pairs ps (record { deep = omega (arith, h.deep); large = omega (arith, h.large) })

pub ruleset calls = (kept_caught)

pub ruleset vars = (kept_null, kept_found, kept_put, put_again, put_same, kept_at)

-- ---- arguments, one at a time

pub left_here : (vs : Vals) (i : ℕ) (v : Val) → val_at vs i ≡ Some v → left i vs ≡ val v (left (i + 1) vs)
left_here no_vals i v e = absurd cc
left_here (val u vs) zero v e = let f : u ≡ v = cc in ap (λ x. val x vs) f
left_here (val u vs) (suc i) v e = let n : suc i + 1 ≡ suc (i + 1) = omega arith in rw n (left_here vs i v e)

pub left_past : (vs : Vals) (i : ℕ) → val_at vs i ≡ None → left i vs ≡ no_vals
left_past no_vals zero e = refl
left_past no_vals (suc i) e = refl
left_past (val u vs) zero e = absurd cc
left_past (val u vs) (suc i) e = left_past vs i e

pub bind_past : (xs : List (List ℕ)) (ps : Pairs) → bind xs no_vals ps ≡ ps
bind_past [] ps = refl
bind_past (x ∷ xs) ps = refl

pub drop_past : (xs : List (List ℕ)) (i : ℕ) → length xs ≤ i → drop i xs ≡ []
drop_past [] zero h = refl
drop_past [] (suc i) h = refl
drop_past (x ∷ xs) zero h = absurd (omega arith)
drop_past (x ∷ xs) (suc i) h = drop_past xs i (omega arith)

pub bind_none : (vs : Vals) (ps : Pairs) → bind [] vs ps ≡ ps
bind_none vs ps = refl

pub bind_here : (x : List ℕ) (xs : List (List ℕ)) (vs : Vals) (i : ℕ) (v : Val) (ps : Pairs) → val_at vs i ≡ Some v
    → bind (x ∷ xs) (left i vs) ps ≡ bind xs (left (i + 1) vs) (put x v ps)
bind_here x xs vs i v ps e = ap (λ us. bind (x ∷ xs) us ps) (left_here vs i v e)

pub ruleset binds = (left_here, left_past, bind_past)

-- ---- `+=`

pub grown_list : (v e : Val) → is_list v ≡ true → grown v e ≡ append v e
grown_list null e h = absurd cc
grown_list (truth b) e h = absurd cc
grown_list (num z) e h = absurd cc
grown_list (text t) e h = absurd cc
grown_list (list vs) e h = refl
grown_list (dict ps) e h = absurd cc
grown_list (fun f c) e h = absurd cc
grown_list (ref d) e h = absurd cc

pub grown_other : (v e : Val) → is_list v ≡ false → grown v e ≡ plus v e
grown_other null e h = refl
grown_other (truth b) e h = refl
grown_other (num z) e h = refl
grown_other (text t) e h = refl
grown_other (list vs) e h = absurd cc
grown_other (dict ps) e h = refl
grown_other (fun f c) e h = refl
grown_other (ref d) e h = refl

pub ruleset grows = (grown_list, grown_other)

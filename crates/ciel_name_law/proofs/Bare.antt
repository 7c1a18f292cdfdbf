-- A sound and typed value over names can be spelled: its named functions captured nothing, and the limits bound its counts.
use Rattle.std.proofs.Common.{◌≡◌, ◌<◌, ◌≤◌, ◌+◌, ◌^◌, ℕ, List, [], ◌∷◌, ◌++◌, length, Bool, true, false, IsUtf8, refl, ap, sym, ◌∙◌, subst, arith}
use Rattle.std.proofs.Common.{◌⊎◌, inl, inr, Option, Some, None}
use Rattle.sky_base.specs.Eval.{find_fun, find_fun_if}
use Rattle.sky_base.specs.Kept.{Kept}
use Rattle.sky_base.specs.Name.{is_anonymous}
use Rattle.sky_base.specs.Tree.{FunDef, Script}
use Rattle.sky_base.specs.Val.{Val, Vals, Pairs, Desc, null, truth, num, text, list, dict, fun, ref, no_vals, val, no_pairs, pair, call, out, input}
use Rattle.sky_base.specs.Val.{known, count, pair_count, refs, vals_refs, pairs_refs, size, sizes, pair_sizes, Rising, same_text}
use Rattle.sky_base.proofs.Exact.{exact_text}
use Rattle.sky_base_law.specs.Sound.{AllUsed, CallsIf, IsMain, PairsSound, RefsSound, Sound, SoundDesc, TakesIf, ValsSound}
use Rattle.sky_base_law.specs.Tasks.{Each}
use Rattle.sky_base_law.specs.Typed.{EachTyped, Typed, TypedDesc, ValsTyped}
use Rattle.sky_base_law.proofs.TypedOps.{count_small, pairs_small}
use Rattle.ciel_name.specs.Laws.{SpelledDesc}
use Rattle.ciel_name.specs.Spelled.{AllSpelled, CapturesSo, IsData, IsName, IsText, PairsSpelled, Spelled}
use Rattle.ciel_name_law.specs.Typed.{DescOverNames, NamedUseNothing, OverNames}

-- any name may stand inside
abbrev Any : List ℕ → Type 0
Any n = Unit {0}

left_of : (xs ys : List (Desc (List ℕ))) → Each IsName (xs ++ ys) → Each IsName xs
left_of [] ys h = tt
left_of (x ∷ xs) ys h = (h.0, left_of xs ys h.1)

right_of : (xs ys : List (Desc (List ℕ))) → Each IsName (xs ++ ys) → Each IsName ys
right_of [] ys h = h
right_of (x ∷ xs) ys h = right_of xs ys h.1

none_used : (c : Pairs (List ℕ)) → AllUsed [] c → c ≡ no_pairs
none_used no_pairs a = refl
none_used (pair k v ps) a = let b = a.0 in cc

module _ (sc : Script) (bare : NamedUseNothing sc.funs) where
  -- a function that is found is a named one that uses nothing, or an anonymous one
  found : (fs : List FunDef) → NamedUseNothing fs → (f : List ℕ) (d : FunDef) → find_fun f fs ≡ Some d → is_anonymous f ≡ false → d.uses ≡ []
  found [] n f d e a = cc
  found (g ∷ gs) n f d e a = turn (same_text f g.name) refl e (found gs n.1 f d)
    where
      turn : (b : Bool) → same_text f g.name ≡ b → find_fun_if b g (find_fun f gs) ≡ Some d
          → (find_fun f gs ≡ Some d → is_anonymous f ≡ false → d.uses ≡ []) → d.uses ≡ []
      turn true s h r =
          let same : g ≡ d = cc in
          subst (λ x. x.uses ≡ []) same (n.0 (ap is_anonymous (sym (exact_text f g.name s)) ∙ a))
      turn false s h r = r h a

  takes : (f : List ℕ) (c : Pairs (List ℕ)) → TakesIf (find_fun f sc.funs) c → is_anonymous f ≡ false → c ≡ no_pairs
  takes f c h a = turn (find_fun f sc.funs) refl h
    where
      turn : (o : Option FunDef) → find_fun f sc.funs ≡ o → TakesIf o c → c ≡ no_pairs
      turn None e k = absurd k
      turn (Some d) e k = none_used c (subst (λ us. AllUsed us c) (found sc.funs bare f d e a) k)

  calls : (f : List ℕ) (c : Pairs (List ℕ)) (vs : Vals (List ℕ)) → (IsMain f c vs ⊎ CallsIf (find_fun f sc.funs) c vs) → is_anonymous f ≡ false
      → c ≡ no_pairs
  calls f c vs (inl m) a = m.1
  calls f c vs (inr h) a = turn (find_fun f sc.funs) refl h
    where
      turn : (o : Option FunDef) → find_fun f sc.funs ≡ o → CallsIf o c vs → c ≡ no_pairs
      turn None e k = absurd k
      turn (Some d) e k = none_used c (subst (λ us. AllUsed us c) (found sc.funs bare f d e a) k.0)

  captures : (f : List ℕ) (c : Pairs (List ℕ)) → (is_anonymous f ≡ false → c ≡ no_pairs) → Rising c → pair_count c < 2 ^ 32
      → CapturesSo (is_anonymous f) c
  captures f c h r n = turn (is_anonymous f) refl
    where
      turn : (b : Bool) → is_anonymous f ≡ b → CapturesSo b c
      turn false e = h e
      turn true e = (r, n)

  -- a text whose size is within the limits has a length of 32 bits
  short : (x : List ℕ) (n : ℕ) → IsUtf8 x → length x ≤ n → n ≤ 262144 → IsText x
  short x n u le small = let lt : length x < 4294967296 = omega (arith, le, small) in (u, lt)

  few : (k n : ℕ) → k ≤ n → n ≤ 262144 → k < 2 ^ 32
  few k n le small = let lt : k < 4294967296 = omega (arith, le, small) in lt

  mutual
    spelled : (v : Val (List ℕ)) → Typed v → OverNames v → RefsSound sc v → size v ≤ 262144 → Spelled v
    spelled null t o s z = tt
    spelled (truth b) t o s z = tt
    spelled (num y) t o s z = t
    spelled (text x) t o s z = short x (1 + length x) t (omega arith) z
    spelled (list vs) t o s z = (all_spelled vs t o s (omega (arith, z)), few (count vs) (sizes vs) (count_small vs) (omega (arith, z)))
    spelled (dict ps) t o s z =
        (pairs_spelled ps t.0 o s (omega (arith, z)), (t.1, few (pair_count ps) (pair_sizes ps) (pairs_small ps) (omega (arith, z))))
    spelled (fun f c) t o s z = (
      short f (1 + (length f + pair_sizes c)) t.0 (omega arith) z,
      (
        captures f c (takes f c s.0) t.2 (few (pair_count c) (pair_sizes c) (pairs_small c) (omega (arith, z))),
        pairs_spelled c t.1 o s.1 (omega (arith, z)),
      ),
    )
    spelled (ref d) t o s z = o.0

    all_spelled : (vs : Vals (List ℕ)) → ValsTyped Any vs → Each IsName (vals_refs vs) → ValsSound sc vs → sizes vs ≤ 262144 → AllSpelled vs
    all_spelled no_vals t o s z = tt
    all_spelled (val v vs) t o s z = (
      spelled v t.0 (left_of (refs v) (vals_refs vs) o) s.0 (omega (arith, z)),
      all_spelled vs t.1 (right_of (refs v) (vals_refs vs) o) s.1 (omega (arith, z)),
    )

    pairs_spelled : (ps : Pairs (List ℕ)) → EachTyped Any ps → Each IsName (pairs_refs ps) → PairsSound sc ps → pair_sizes ps ≤ 262144
        → PairsSpelled ps
    pairs_spelled no_pairs t o s z = tt
    pairs_spelled (pair k v ps) t o s z = (
      short k (length k + size v + pair_sizes ps) t.0 (omega arith) z,
      (
        spelled v t.1 (left_of (refs v) (pairs_refs ps) o) s.0 (omega (arith, z)),
        pairs_spelled ps t.2 (right_of (refs v) (pairs_refs ps) o) s.1 (omega (arith, z)),
      ),
    )

  pub sound_data : (v : Val (List ℕ)) → Typed v → OverNames v → Sound sc v → IsData v
  sound_data v t o s = record { spelled = spelled v t o s.1 s.0.large; kept = s.0 }

  -- a list of arguments, and what a function captured, within the limits
  arguments : (vs : Vals (List ℕ)) → ValsTyped Any vs → Each IsName (vals_refs vs) → ValsSound sc vs → Kept (list vs) → AllSpelled vs
      × (count vs < 2 ^ 32)
  arguments vs t o s k =
      let z : 1 + sizes vs ≤ 262144 = k.large in
      (all_spelled vs t o s (omega (arith, z)), few (count vs) (sizes vs) (count_small vs) (omega (arith, z)))

  pub sound_spelled : (d : Desc (List ℕ)) → TypedDesc d → DescOverNames d → SoundDesc sc d → SpelledDesc d
  sound_spelled (call f c vs) t o s =
      let z : 1 + (length f + pair_sizes c) ≤ 262144 = s.1.large in (
        short f (1 + (length f + pair_sizes c)) t.0 (omega arith) z,
        (
          (
            captures f c (calls f c vs s.4) t.2 (few (pair_count c) (pair_sizes c) (pairs_small c) (omega (arith, z))),
            pairs_spelled c t.1 o.0 s.3 (omega (arith, z)),
          ),
          arguments vs t.3 o.1 s.2 s.0,
        ),
      )
  sound_spelled (out x v n i) t o s =
      let z : 1 + length x ≤ 262144 = s.0.large in
      let n32 : n < 4294967296 = omega (arith, s.4) in
      let i32 : i < 4294967296 = omega (arith, s.3, s.4) in
      (short x (1 + length x) t.0 (omega arith) z, (spelled v t.1 o s.2 s.1.large, (n32, i32)))
  sound_spelled (input k) t o s = let z : 1 + length k ≤ 262144 = s.0.large in short k (1 + length k) t (omega arith) z
  sound_spelled (known n) t o s = absurd o

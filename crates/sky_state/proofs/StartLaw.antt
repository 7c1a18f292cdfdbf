-- A start state fits its script.
use Rattle.std.proofs.Common.{◌≡◌, ℕ, ◌+◌, ◌⊎◌, inl, inr, Bool, true, false, List, [], ◌∷◌, length, take, Option, Some, None, refl, sym, ap, ◌∙◌}
use Rattle.std.proofs.Common.{subst, arith}
use Rattle.std.specs.Ordering.{nat_cmp, match_ordering}
use Rattle.std.specs.Cmp.Lexicographic.{slice_cmp}
use Rattle.std.specs.declared.cmp.Ordering.{Ordering}
use Rattle.sky_base.specs.Val.{Val, Vals, Pairs, no_vals, val, no_pairs, pair, count, same_text}
use Rattle.sky_base.specs.Op.{put}
use Rattle.sky_base.specs.Tree.{FunDef, Script, block_nodes}
use Rattle.sky_base.specs.Eval.{find_fun, find_fun_if, Body, find_body, find_body_if, body_of, bind}
use Rattle.sky_base.specs.Read.{Frame, Run}
use Rattle.sky_base.proofs.Keys.{same_key}
use Rattle.sky_base_law.specs.Tasks.{In, Each}
use Rattle.sky_base_law.specs.Sound.{IsFun, AllUsed, IsMain, CallsIf, Sound, SoundVars}
use Rattle.sky_base_law.proofs.Lists.{some_is}
use Rattle.sky_state.specs.Table.{part, row, keeps, IsStep}
use Rattle.sky_state.specs.Fits.{row_of, OnBody, OfKinds, TakenFrom, kept_in_all, uses_of, KeysFrom, HasKey, StartVars, IsStart, FitsFrame, FitsRun}
use Rattle.sky_state.specs.Start.{SoundVals, CanStart}
use Rattle.sky_state.proofs.LinkLaw.{block_of_body}
use Rattle.sky_state.proofs.StackLaw.{kept_more}

module _ {N : Type 0} where
  -- ---- what is put at a key

  module _ (sc : Script) where
    put_sound : (k : List ℕ) (v : Val N) (ps : Pairs N) → Sound sc v → SoundVars sc ps → SoundVars sc (put k v ps)
    put_sound k v no_pairs h l = (h, tt)
    put_sound k v (pair j u ps) h l = go (slice_cmp nat_cmp k j) (put_sound k v ps h l.1)
      where
        go : (o : Ordering) → SoundVars sc (put k v ps)
            → SoundVars sc (match_ordering o (pair k v (pair j u ps)) (pair j v ps) (pair j u (put k v ps)))
        go Ordering.Less i = (h, l)
        go Ordering.Equal i = (h, l.1)
        go Ordering.Greater i = (l.0, i)

    pub bind_sound : (xs : List (List ℕ)) (vs : Vals N) (ps : Pairs N) → SoundVals sc vs → SoundVars sc ps → SoundVars sc (bind xs vs ps)
    bind_sound [] vs ps h l = l
    bind_sound (x ∷ xs) no_vals ps h l = l
    bind_sound (x ∷ xs) (val v vs) ps h l = bind_sound xs vs (put x v ps) h.1 (put_sound x v ps h.0 l)

  put_has : (x : List ℕ) (v : Val N) (ps : Pairs N) → HasKey (put x v ps) x
  put_has x v no_pairs = inl refl
  put_has x v (pair j u ps) = go (slice_cmp nat_cmp x j) refl (put_has x v ps)
    where
      go : (o : Ordering) → slice_cmp nat_cmp x j ≡ o → HasKey (put x v ps) x
          → HasKey (match_ordering o (pair x v (pair j u ps)) (pair j v ps) (pair j u (put x v ps))) x
      go Ordering.Less e i = inl refl
      go Ordering.Equal e i = inl (same_key x j e)
      go Ordering.Greater e i = inr i

  put_keeps : (y x : List ℕ) (v : Val N) (ps : Pairs N) → HasKey ps y → HasKey (put x v ps) y
  put_keeps y x v no_pairs h = absurd h
  put_keeps y x v (pair j u ps) h = go (slice_cmp nat_cmp x j) h (put_keeps y x v ps)
    where
      go : (o : Ordering) → (y ≡ j) ⊎ HasKey ps y → (HasKey ps y → HasKey (put x v ps) y)
          → HasKey (match_ordering o (pair x v (pair j u ps)) (pair j v ps) (pair j u (put x v ps))) y
      go Ordering.Less i k = inr i
      go Ordering.Equal i k = i
      go Ordering.Greater (inl e) k = inl e
      go Ordering.Greater (inr i) k = inr (k i)

  bind_keeps : (y : List ℕ) (xs : List (List ℕ)) (vs : Vals N) (ps : Pairs N) → HasKey ps y → HasKey (bind xs vs ps) y
  bind_keeps y [] vs ps h = h
  bind_keeps y (x ∷ xs) no_vals ps h = h
  bind_keeps y (x ∷ xs) (val v vs) ps h = bind_keeps y xs vs (put x v ps) (put_keeps y x v ps h)

  -- each parameter that has an argument is set
  bind_has : (xs : List (List ℕ)) (vs : Vals N) (ps : Pairs N) → length xs ≡ count vs → Each (HasKey (bind xs vs ps)) xs
  bind_has [] vs ps e = tt
  bind_has (x ∷ xs) no_vals ps e = absurd (omega (arith, e))
  bind_has (x ∷ xs) (val v vs) ps e =
      (bind_keeps x xs vs (put x v ps) (put_has x v ps), bind_has xs vs (put x v ps) (omega (arith, e)))

  put_from : (xs us : List (List ℕ)) (k : List ℕ) (v : Val N) (ps : Pairs N) → In k xs → KeysFrom xs us ps → KeysFrom xs us (put k v ps)
  put_from xs us k v no_pairs i h = (inl i, tt)
  put_from xs us k v (pair j u ps) i h = go (slice_cmp nat_cmp k j) (put_from xs us k v ps i h.1)
    where
      go : (o : Ordering) → KeysFrom xs us (put k v ps)
          → KeysFrom xs us (match_ordering o (pair k v (pair j u ps)) (pair j v ps) (pair j u (put k v ps)))
      go Ordering.Less l = (inl i, h)
      go Ordering.Equal l = h
      go Ordering.Greater l = (h.0, l)

  -- and no other name is
  bind_from : (all us xs : List (List ℕ)) (vs : Vals N) (ps : Pairs N) → ((x : List ℕ) → In x xs → In x all) → KeysFrom all us ps
      → KeysFrom all us (bind xs vs ps)
  bind_from all us [] vs ps i h = h
  bind_from all us (x ∷ xs) no_vals ps i h = h
  bind_from all us (x ∷ xs) (val v vs) ps i h =
      bind_from all us xs vs (put x v ps) (λ y j. i y (inr j)) (put_from all us x v ps (i x (inl refl)) h)

  used_from : (xs us : List (List ℕ)) (ps : Pairs N) → AllUsed us ps → KeysFrom xs us ps
  used_from xs us no_pairs h = tt
  used_from xs us (pair k v ps) h = (inr h.0, used_from xs us ps h.1)

-- ---- the body of a function has its parameters

fun_none : (x : List ℕ) (d : FunDef) → None ≡ Some d → ⊥
fun_none x d e = cc

body_params_if : (t : Bool) (g : FunDef) (i : ℕ) (o : Option Body) (p : Option FunDef) (b : Body) (d : FunDef) → find_body_if t g i o ≡ Some b
    → find_fun_if t g p ≡ Some d → (o ≡ Some b → p ≡ Some d → b.params ≡ d.params) → b.params ≡ d.params
body_params_if true g i o p b d e h k =
    ap (λ (z : Body). z.params) (sym (some_is _ b e)) ∙ ap (λ (z : FunDef). z.params) (some_is g d h)
body_params_if false g i o p b d e h k = k e h

body_params : (x : List ℕ) (fs : List FunDef) (i : ℕ) (b : Body) (d : FunDef) → find_body x fs i ≡ Some b → find_fun x fs ≡ Some d → b.params
    ≡ d.params
body_params x [] i b d e h = absurd (fun_none x d h)
body_params x (g ∷ fs) i b d e h =
    body_params_if (same_text x g.name) g i (find_body x fs (i + block_nodes g.body)) (find_fun x fs) b d e h
    (λ p q. body_params x fs (i + block_nodes g.body) b d p q)

module _ (sc : Script) where
  main_params : (f : List ℕ) (b : Body) → f ≡ [] → body_of f sc ≡ Some b → [] ≡ b.params
  main_params [] b h e = ap (λ (z : Body). z.params) (some_is _ b e)
  main_params (x ∷ xs) b h e = absurd cc

  on_body : (o : Option Body) (b : Body) → o ≡ Some b → OnBody sc o (record { node = b.node; step = 0 } ∷ [])
  on_body o b e = subst (λ x. OnBody sc x (record { node = b.node; step = 0 } ∷ [])) (sym e) refl

module _ {N : Type 0} (sc : Script) where
  -- the arguments are as many as the parameters of the body, which for `main` has none
  calls_params : (f : List ℕ) (c : Pairs N) (vs : Vals N) (b : Body) (o : Option FunDef) → find_fun f sc.funs ≡ o → CallsIf o c vs → body_of f sc
      ≡ Some b → Each (HasKey (bind b.params vs c)) b.params
  calls_params f c vs b None i h e = absurd h
  calls_params [] c vs b (Some d) i h e = subst (λ xs. Each (HasKey (bind xs vs c)) xs) (ap (λ (z : Body). z.params) (some_is _ b e)) tt
  calls_params (x ∷ xs) c vs b (Some d) i h e =
      bind_has b.params vs c (ap length (body_params (x ∷ xs) sc.funs (block_nodes sc.main) b d e i) ∙ h.1)

  calls_used : (xs : List (List ℕ)) (c : Pairs N) (vs : Vals N) (o : Option FunDef) → CallsIf o c vs → KeysFrom xs (uses_of o) c
  calls_used xs c vs None h = absurd h
  calls_used xs c vs (Some d) h = used_from xs d.uses c h.0

  start_vars : (f : List ℕ) (c : Pairs N) (vs : Vals N) (b : Body) → IsMain f c vs ⊎ CallsIf (find_fun f sc.funs) c vs → body_of f sc ≡ Some b
      → StartVars sc (Some b) (uses_of (find_fun f sc.funs)) (bind b.params vs c)
  start_vars f c vs b (inr h) e = (
    bind_from b.params (uses_of (find_fun f sc.funs)) b.params vs c (λ x i. i) (calls_used b.params c vs (find_fun f sc.funs) h),
    calls_params f c vs b (find_fun f sc.funs) refl h e,
  )
  start_vars f c vs b (inl m) e =
      subst (λ xs. KeysFrom xs (uses_of (find_fun f sc.funs)) (bind xs vs c) × Each (HasKey (bind xs vs c)) xs) (main_params sc f b m.0 e)
      (subst (λ ps. KeysFrom [] (uses_of (find_fun f sc.funs)) ps) (sym m.1) tt, tt)

  -- ---- the start

  abbrev start_frame : List ℕ → Pairs N → Vals N → Body → Frame N
  start_frame f c vs b = record { fun = f; vars = bind b.params vs c; stack = []; todo = record { node = b.node; step = 0 } ∷ [] }

  abbrev pub start_run : List ℕ → Pairs N → Vals N → Body → Run N
  start_run f c vs b = record { frames = start_frame f c vs b ∷ []; count = 0; waits = 0 }

  module _ (f : List ℕ) (c : Pairs N) (vs : Vals N) (b : Body) (can : CanStart sc f c vs) (e : body_of f sc ≡ Some b) where
    pub starts : IsStart sc (start_run f c vs b)
    starts =
        record {
          frame = record {
            bottom = on_body sc (body_of f sc) b e;
            at_start = refl;
            stack = refl;
            vars =
                subst (λ o. StartVars sc o (uses_of (find_fun f sc.funs)) (bind b.params vs c)) (sym e) (start_vars f c vs b can.call e);
          };
          count =
              refl;
          waits = refl;
        }

    begins : row_of sc (record { node = b.node; step = 0 }) ≡ part 0 []
    begins = ap (λ o. row o b.node 0) (block_of_body sc f b e)

    none_kept : 0 ≡ kept_in_all sc (record { node = b.node; step = 0 } ∷ [])
    none_kept = omega (arith, ap keeps begins, kept_more sc (record { node = b.node; step = 0 }) [])

    frame_fits : FitsFrame sc (start_frame f c vs b)
    frame_fits =
        record {
          bottom = on_body sc (body_of f sc) b e;
          steps = (subst IsStep (sym begins) tt, tt);
          parts = tt;
          as_many = none_kept;
          kinds =
              (subst (λ r. OfKinds {N = N} r (take (keeps r) [])) (sym begins) tt, tt);
          taken =
              (subst (λ r. TakenFrom {N = N} r (take (keeps r) [])) (sym begins) tt, tt);
          vars = bind_sound sc b.params vs c can.args can.caught;
          values = tt;
        }

    is_fun : (o : Option FunDef) → find_fun f sc.funs ≡ o → CallsIf o c vs → IsFun sc f
    is_fun None i h = absurd h
    is_fun (Some d) i h = rw i refl

    its_fun : IsMain f c vs ⊎ CallsIf (find_fun f sc.funs) c vs → (f ≡ []) ⊎ IsFun sc f
    its_fun (inl m) = inl m.0
    its_fun (inr h) = inr (is_fun (find_fun f sc.funs) refl h)

    pub start_fits : FitsRun sc (start_run f c vs b)
    start_fits =
        record {
          some_frame = omega arith;
          few_frames = omega arith;
          count = omega arith;
          waits = omega arith;
          functions =
              (its_fun can.call, tt);
          frames = (frame_fits, tt);
          calls = tt;
          top = inr starts;
          started =
              (λ h. absurd (omega (arith, h)), λ h. absurd (h starts));
        }

-- A value that is sound is so with names in place of descriptions too.
use Rattle.std.proofs.Common.{ℕ, ◌≤◌, List, [], ◌∷◌, map, Option, Some, None, sym, ap, ◌∙◌, subst, ◌⊎◌, inl, inr}
use Rattle.sky_base.specs.Val.{Val, Vals, Pairs, Desc, null, truth, num, text, list, dict, fun, ref, no_vals, val, no_pairs, pair, call, out, input}
use Rattle.sky_base.specs.Val.{known}
use Rattle.sky_base.specs.Name.{low, low_vals, low_pairs, low_desc}
use Rattle.sky_base.specs.Kept.{Kept}
use Rattle.sky_base.specs.Tree.{FunDef, Script}
use Rattle.sky_base.specs.Eval.{find_fun}
use Rattle.sky_base_law.specs.Tasks.{Each}
use Rattle.sky_base_law.specs.Sound.{AllUsed, TakesIf, CallsIf, IsMain, RefsSound, ValsSound, PairsSound, SoundDesc, Sound, SoundVars}
use Rattle.sky_base_law.proofs.Low.{size_low, depth_low, count_low}

module _ {N : Type 0} (spell : N → List ℕ) (tag : Desc (List ℕ) → List ℕ) where
  pub used_low : (us : List (List ℕ)) (ps : Pairs N) → AllUsed us ps → AllUsed us (low_pairs spell tag ps)
  used_low us no_pairs h = tt
  used_low us (pair k v ps) h = (h.0, used_low us ps h.1)

  pub takes_low : (o : Option FunDef) (c : Pairs N) → TakesIf o c → TakesIf o (low_pairs spell tag c)
  takes_low None c h = h
  takes_low (Some d) c h = used_low d.uses c h

  module _ (sc : Script) where
    mutual
      pub refs_sound_low : (v : Val N) → RefsSound sc v → RefsSound sc (low spell tag v)
      refs_sound_low null h = tt
      refs_sound_low (truth b) h = tt
      refs_sound_low (num z) h = tt
      refs_sound_low (text t) h = tt
      refs_sound_low (list vs) h = vals_sound_low vs h
      refs_sound_low (dict ps) h = pairs_sound_low ps h
      refs_sound_low (fun f c) h = (takes_low (find_fun f sc.funs) c h.0, pairs_sound_low c h.1)
      refs_sound_low (ref d) h = tt

      vals_sound_low : (vs : Vals N) → ValsSound sc vs → ValsSound sc (low_vals spell tag vs)
      vals_sound_low no_vals h = tt
      vals_sound_low (val v vs) h = (refs_sound_low v h.0, vals_sound_low vs h.1)

      pairs_sound_low : (ps : Pairs N) → PairsSound sc ps → PairsSound sc (low_pairs spell tag ps)
      pairs_sound_low no_pairs h = tt
      pairs_sound_low (pair k v ps) h = (refs_sound_low v h.0, pairs_sound_low ps h.1)

    pub kept_low : (v : Val N) → Kept v → Kept (low spell tag v)
    kept_low v h =
        record {
          deep = subst (λ n. n ≤ 100) (sym (depth_low spell tag v)) h.deep;
          large =
              subst (λ n. n ≤ 262144) (sym (size_low spell tag v)) h.large;
        }

    pub sound_low : (v : Val N) → Sound sc v → Sound sc (low spell tag v)
    sound_low v h = (kept_low v h.0, refs_sound_low v h.1)

    pub vars_low : (ps : Pairs N) → SoundVars sc ps → SoundVars sc (low_pairs spell tag ps)
    vars_low no_pairs h = tt
    vars_low (pair k v ps) h = (sound_low v h.0, vars_low ps h.1)

    pub stack_low : (vs : List (Val N)) → Each (Sound sc) vs → Each (Sound sc) (map (low spell tag) vs)
    stack_low [] h = tt
    stack_low (v ∷ vs) h = (sound_low v h.0, stack_low vs h.1)

    calls_low : (o : Option FunDef) (c : Pairs N) (vs : Vals N) → CallsIf o c vs → CallsIf o (low_pairs spell tag c) (low_vals spell tag vs)
    calls_low None c vs h = h
    calls_low (Some d) c vs h = (used_low d.uses c h.0, h.1 ∙ sym (count_low spell tag vs))

    pub call_low : (f : List ℕ) (c : Pairs N) (vs : Vals N) → IsMain f c vs ⊎ CallsIf (find_fun f sc.funs) c vs
        → IsMain f (low_pairs spell tag c) (low_vals spell tag vs) ⊎ CallsIf (find_fun f sc.funs) (low_pairs spell tag c) (low_vals spell tag vs)
    call_low f c vs (inl m) = inl (m.0, ap (low_pairs spell tag) m.1, ap (low_vals spell tag) m.2)
    call_low f c vs (inr h) = inr (calls_low (find_fun f sc.funs) c vs h)

    pub sound_desc_low : (d : Desc N) → SoundDesc sc d → SoundDesc sc (low_desc spell tag d)
    sound_desc_low (call f c vs) h =
        (kept_low (list vs) h.0, kept_low (fun f c) h.1, vals_sound_low vs h.2, pairs_sound_low c h.3, call_low f c vs h.4)
    sound_desc_low (out x v n i) h = (kept_text x h.0, kept_low v h.1, refs_sound_low v h.2, h.3, h.4)
      where
        kept_text : (x : List ℕ) → Kept {N = N} (text x) → Kept {N = List ℕ} (text x)
        kept_text x k = record { deep = k.deep; large = k.large }
    sound_desc_low (input k) h = (record { deep = h.0.deep; large = h.0.large }, h.1)
    sound_desc_low (known b) h = tt

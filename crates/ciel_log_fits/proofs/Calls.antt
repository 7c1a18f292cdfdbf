-- Calls, keys and what is sound, as the tests of descriptions find them.
use Rattle.std.proofs.Common.{◌≡◌, ℕ, suc, List, [], ◌∷◌, Bool, true, false, ◌||◌, cond, length, nat_eq, Option, Some, None, option_map, ◌⊎◌, inl, inr}
use Rattle.std.proofs.Common.{refl, sym, ap, ◌∙◌, subst, eqb-true, eq-eqb, arith}
use Rattle.sky_base.specs.Eval.{find_fun, is_one_of}
use Rattle.sky_base.specs.Kept.{Kept}
use Rattle.sky_base.specs.ObjectView.{desc_view}
use Rattle.sky_base.specs.Tree.{FunDef, Script}
use Rattle.sky_base.specs.Val.{Vals, Pairs, call, count, dict, fun, list, no_pairs, no_vals, pair, pair_count, same_text, val}
use Rattle.sky_base.specs.declared.object.Desc1.{Desc1}
use Rattle.sky_base.specs.declared.object.Named.{Named}
use Rattle.sky_base_law.specs.Sound.{CallsIf, IsMain, PairsSound, Sound, SoundDesc, SoundVars, TakesIf, ValsSound}
use Rattle.sky_base_law.proofs.SoundOps.{caught_kept}
use Rattle.sky_frozen.proofs.UsesLaw.{one_of_more}
use Rattle.sky_state.specs.Start.{SoundVals}
use Rattle.ciel_journal.specs.Job.{Each}
use Rattle.ciel_master_board.specs.Board.{key_number}
use Rattle.ciel_master_board.specs.Reports.{named_view}
use Rattle.ciel_master_safe.specs.Safe.{Serves}
use Rattle.ciel_log_fits.specs.Calls.{TakesMany}

-- ---- none

both : (b : Bool) → b ≡ true → b ≡ false → ⊥
both true e f = cc
both false e f = cc

pub zero_pairs : (n : ℕ) (ps : Pairs (List ℕ)) → n ≡ pair_count ps → nat_eq n 0 ≡ true → ps ≡ no_pairs
zero_pairs n no_pairs e t = refl
zero_pairs n (pair k v ps) e t = absurd (omega (arith, e, eqb-true n 0 t))

pub pairs_zero : (n : ℕ) (ps : Pairs (List ℕ)) → n ≡ pair_count ps → nat_eq n 0 ≡ false → ps ≡ no_pairs → ⊥
pairs_zero n ps e t h = both (nat_eq n 0) (eq-eqb n 0 (e ∙ ap pair_count h)) t

pub zero_vals : (n : ℕ) (vs : Vals (List ℕ)) → n ≡ count vs → nat_eq n 0 ≡ true → vs ≡ no_vals
zero_vals n no_vals e t = refl
zero_vals n (val v vs) e t = absurd (omega (arith, e, eqb-true n 0 t))

pub vals_zero : (n : ℕ) (vs : Vals (List ℕ)) → n ≡ count vs → nat_eq n 0 ≡ false → vs ≡ no_vals → ⊥
vals_zero n vs e t h = both (nat_eq n 0) (eq-eqb n 0 (e ∙ ap count h)) t

-- ---- keys

pub key_there : (keys : List (List ℕ)) (k : List ℕ) → is_one_of k keys ≡ true → (i : ℕ) × (key_number keys k ≡ Some i)
key_there [] k e = absurd cc
key_there (x ∷ xs) k e = go (same_text k x) (sym (one_of_more k x xs) ∙ e) (key_there xs k)
  where
    go : (b : Bool) → b || is_one_of k xs ≡ true → (is_one_of k xs ≡ true → (i : ℕ) × (key_number xs k ≡ Some i)) → (i : ℕ)
        × (cond b (Some 0) (option_map suc (key_number xs k)) ≡ Some i)
    go true h r = (0, refl)
    go false h r = let q = r h in (suc q.0, ap (option_map suc) q.1)

-- ---- functions

pub many : (o : Option FunDef) (f : FunDef) (vs : Vals (List ℕ)) → o ≡ Some f → length f.params ≡ count vs → TakesMany o vs
many o f vs e l = subst (λ x. TakesMany x vs) (sym e) l

pub is_many : (o : Option FunDef) (f : FunDef) (vs : Vals (List ℕ)) → o ≡ Some f → TakesMany o vs → length f.params ≡ count vs
is_many o f vs e h = subst (λ x. TakesMany x vs) e h

pub no_function : (o : Option FunDef) (vs : Vals (List ℕ)) → o ≡ None → TakesMany o vs → ⊥
no_function o vs e h = subst (λ x. TakesMany x vs) e h

calls_if : (o : Option FunDef) (c : Pairs (List ℕ)) (vs : Vals (List ℕ)) → TakesIf o c → TakesMany o vs → CallsIf o c vs
calls_if None c vs h g = absurd h
calls_if (Some f) c vs h g = (h, g)

takes_of : (o : Option FunDef) (c : Pairs (List ℕ)) (vs : Vals (List ℕ)) → CallsIf o c vs → TakesIf o c
takes_of None c vs h = absurd h
takes_of (Some f) c vs h = h.0

many_of : (o : Option FunDef) (c : Pairs (List ℕ)) (vs : Vals (List ℕ)) → CallsIf o c vs → TakesMany o vs
many_of None c vs h = absurd h
many_of (Some f) c vs h = h.1

-- ---- sound calls

pub main_sound : (sc : Script) (f : List ℕ) (c : Pairs (List ℕ)) (vs : Vals (List ℕ)) → IsMain f c vs → SoundDesc sc (call f c vs)
main_sound sc f c vs h =
    subst (λ g. SoundDesc sc (call g c vs)) (sym h.0) (subst (λ d. SoundDesc sc (call [] d vs)) (sym h.1)
    (subst (λ us. SoundDesc sc (call [] no_pairs us)) (sym h.2) here))
  where
    here : SoundDesc {N = List ℕ} sc (call [] no_pairs no_vals)
    here = (record { deep = omega arith; large = omega arith }, record { deep = omega arith; large = omega arith }, tt, tt, inl (refl, refl, refl))

module _ (sc : Script) (f : List ℕ) (c : Pairs (List ℕ)) (vs : Vals (List ℕ)) where
  pub call_sound : TakesMany (find_fun f sc.funs) vs → Sound sc (fun f c) → Sound sc (list vs) → SoundDesc sc (call f c vs)
  call_sound m g a = (a.0, g.0, a.1, g.1.1, inr (calls_if (find_fun f sc.funs) c vs g.1.0 m))

  called : (IsMain f c vs → ⊥) → SoundDesc sc (call f c vs) → CallsIf (find_fun f sc.funs) c vs
  called m h = go h.4
    where
      go : IsMain f c vs ⊎ CallsIf (find_fun f sc.funs) c vs → CallsIf (find_fun f sc.funs) c vs
      go (inl x) = absurd (m x)
      go (inr x) = x

  pub sound_many : (IsMain f c vs → ⊥) → SoundDesc sc (call f c vs) → TakesMany (find_fun f sc.funs) vs
  sound_many m h = many_of (find_fun f sc.funs) c vs (called m h)

  pub sound_function : (IsMain f c vs → ⊥) → SoundDesc sc (call f c vs) → Sound sc (fun f c)
  sound_function m h = (h.1, (takes_of (find_fun f sc.funs) c vs (called m h), h.3))

  pub sound_list : SoundDesc sc (call f c vs) → Sound sc (list vs)
  sound_list h = (h.0, h.2)

-- ---- what is sound can be served

module _ {N : Type 0} (sc : Script) where
  pairs_vars : (ps : Pairs N) → Kept (dict ps) → PairsSound sc ps → SoundVars sc ps
  pairs_vars no_pairs k h = tt
  pairs_vars (pair x u ps) k h = (
    (record { deep = omega (arith, k.deep); large = omega (arith, k.large) }, h.0),
    pairs_vars ps (record { deep = omega (arith, k.deep); large = omega (arith, k.large) }) h.1,
  )

  vals_each : (vs : Vals N) → Kept (list vs) → ValsSound sc vs → SoundVals sc vs
  vals_each no_vals k h = tt
  vals_each (val u vs) k h = (
    (record { deep = omega (arith, k.deep); large = omega (arith, k.large) }, h.0),
    vals_each vs (record { deep = omega (arith, k.deep); large = omega (arith, k.large) }) h.1,
  )

pub serves_of : (sc : Script) (d : Desc1) → SoundDesc sc (desc_view d) → Serves sc sc.keys d
serves_of sc (Desc1.Call f c vs) h = record { call = h.4; caught = pairs_vars sc c (caught_kept f c h.1) h.3; args = vals_each sc vs h.0 h.2 }
serves_of sc (Desc1.Exec x a n i) h = h.1
serves_of sc (Desc1.Input k) h = key_there sc.keys k h.1

pub all_serve : (sc : Script) (ns : List Named) → Each (λ (n : Named). SoundDesc sc (named_view n)) ns → Each (λ (n : Named). Serves sc sc.keys n.desc) ns
all_serve sc [] h = tt
all_serve sc (n ∷ ns) h = (serves_of sc n.desc h.0, all_serve sc ns h.1)

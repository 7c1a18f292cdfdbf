-- Where what is known is sound, so is the value at the next wave, whatever may stand inside.
use Rattle.std.proofs.Common.{◌≡◌, ◌≤◌, ℕ, List, [], ◌∷◌, Bool, true, false, nat_lt, Option, Some, None, Result, Ok, Err, ltb-false, refl, subst}
use Rattle.std.specs.Str.{is_utf8}
use Rattle.sky_base.specs.Val.{Val, Vals, Pairs, null, truth, num, text, list, dict, fun, ref, no_vals, val, no_pairs, pair, refs, depth, size}
use Rattle.sky_base.specs.Op.{Answer}
use Rattle.sky_base.specs.Eval.{find_fun, is_one_of}
use Rattle.sky_base.specs.Tree.{FunDef, Script}
use Rattle.sky_base.specs.Res.{Object}
use Rattle.sky_base.specs.declared.fault.Fault.{Fault}
use Rattle.sky_base_law.specs.Sound.{RefsOver, ValsOver, PairsOver, SoundOver, AllUsed, TakesIf}
use Rattle.sky_base_known.specs.Walk.{Obj, Row}
use Rattle.sky_base_waves.specs.Wave.{Turned, text_if, data_or_text, value_of, value_seen, on_list, on_dict, on_fun, on_val, on_pair, fill, fill_vals}
use Rattle.sky_base_waves.specs.Wave.{fill_pairs, next_if, next_of, lone, turn_all, turn_refs, turn_at}

-- ---- what stands in the place of references is sound

abbrev okay : {A : Type 0} → A → Result A Fault
okay a = Ok a

ok_is : {A : Type 0} (a b : A) → okay a ≡ okay b → a ≡ b
ok_is a b e = cc

on_list_over : (K : List ℕ → Type 0) (sc : Script) (r : Result (Vals (List ℕ)) Fault) (w : Val (List ℕ))
    → ((us : Vals (List ℕ)) → r ≡ Ok us → ValsOver K sc us) → on_list r ≡ Ok w → RefsOver K sc w
on_list_over K sc (Ok us) w f e = subst (RefsOver K sc) (ok_is (list us) w e) (f us refl)
on_list_over K sc (Err q) w f e = absurd cc

on_dict_over : (K : List ℕ → Type 0) (sc : Script) (r : Result (Pairs (List ℕ)) Fault) (w : Val (List ℕ))
    → ((us : Pairs (List ℕ)) → r ≡ Ok us → PairsOver K sc us) → on_dict r ≡ Ok w → RefsOver K sc w
on_dict_over K sc (Ok us) w f e = subst (RefsOver K sc) (ok_is (dict us) w e) (f us refl)
on_dict_over K sc (Err q) w f e = absurd cc

on_fun_over : (K : List ℕ → Type 0) (sc : Script) (f : List ℕ) (r : Result (Pairs (List ℕ)) Fault) (w : Val (List ℕ))
    → ((us : Pairs (List ℕ)) → r ≡ Ok us → TakesIf (find_fun f sc.funs) us) → ((us : Pairs (List ℕ)) → r ≡ Ok us → PairsOver K sc us)
    → on_fun f r ≡ Ok w → RefsOver K sc w
on_fun_over K sc f (Ok us) w t g e = subst (RefsOver K sc) (ok_is (fun f us) w e) (t us refl, g us refl)
on_fun_over K sc f (Err q) w t g e = absurd cc

on_val_over : (K : List ℕ → Type 0) (sc : Script) (r : Result (Val (List ℕ)) Fault) (s : Result (Vals (List ℕ)) Fault) (ws : Vals (List ℕ))
    → ((u : Val (List ℕ)) → r ≡ Ok u → RefsOver K sc u) → ((us : Vals (List ℕ)) → s ≡ Ok us → ValsOver K sc us) → on_val r s ≡ Ok ws
    → ValsOver K sc ws
on_val_over K sc (Err q) s ws f g e = absurd cc
on_val_over K sc (Ok u) (Err q) ws f g e = absurd cc
on_val_over K sc (Ok u) (Ok us) ws f g e = subst (ValsOver K sc) (ok_is (val u us) ws e) (f u refl, g us refl)

on_pair_over : (K : List ℕ → Type 0) (sc : Script) (k : List ℕ) (r : Result (Val (List ℕ)) Fault) (s : Result (Pairs (List ℕ)) Fault)
    (ws : Pairs (List ℕ)) → ((u : Val (List ℕ)) → r ≡ Ok u → RefsOver K sc u) → ((us : Pairs (List ℕ)) → s ≡ Ok us → PairsOver K sc us)
    → on_pair k r s ≡ Ok ws → PairsOver K sc ws
on_pair_over K sc k (Err q) s ws f g e = absurd cc
on_pair_over K sc k (Ok u) (Err q) ws f g e = absurd cc
on_pair_over K sc k (Ok u) (Ok us) ws f g e = subst (PairsOver K sc) (ok_is (pair k u us) ws e) (f u refl, g us refl)

-- what is filled in has the keys that stood before

pair_used : (xs : List (List ℕ)) (k : List ℕ) (r : Result (Val (List ℕ)) Fault) (s : Result (Pairs (List ℕ)) Fault) (ws : Pairs (List ℕ))
    → is_one_of k xs ≡ true → ((us : Pairs (List ℕ)) → s ≡ Ok us → AllUsed xs us) → on_pair k r s ≡ Ok ws → AllUsed xs ws
pair_used xs k (Err q) s ws h g e = absurd cc
pair_used xs k (Ok u) (Err q) ws h g e = absurd cc
pair_used xs k (Ok u) (Ok us) ws h g e = subst (AllUsed xs) (ok_is (pair k u us) ws e) (h, g us refl)

fill_used : (g : Row → Result (Val (List ℕ)) Fault) (xs : List (List ℕ)) (ps ws : Pairs (List ℕ)) → AllUsed xs ps → fill_pairs g ps ≡ Ok ws
    → AllUsed xs ws
fill_used g xs no_pairs ws h e = subst (AllUsed xs) (ok_is no_pairs ws e) tt
fill_used g xs (pair k v ps) ws h e =
    pair_used xs k (fill g v) (fill_pairs g ps) ws h.0 (λ us q. fill_used g xs ps us h.1 q) e

fill_taken : (g : Row → Result (Val (List ℕ)) Fault) (o : Option FunDef) (ps ws : Pairs (List ℕ)) → TakesIf o ps → fill_pairs g ps ≡ Ok ws
    → TakesIf o ws
fill_taken g None ps ws h e = h
fill_taken g (Some f) ps ws h e = fill_used g f.uses ps ws h e

module _ (K : List ℕ → Type 0) (sc : Script) (g : Row → Result (Val (List ℕ)) Fault)
    (fine : (d : Row) (v : Val (List ℕ)) → g d ≡ Ok v → RefsOver K sc v) where
  mutual
    fill_over : (v w : Val (List ℕ)) → RefsOver K sc v → fill g v ≡ Ok w → RefsOver K sc w
    fill_over null w h e = subst (RefsOver K sc) (ok_is null w e) tt
    fill_over (truth b) w h e = subst (RefsOver K sc) (ok_is (truth b) w e) tt
    fill_over (num z) w h e = subst (RefsOver K sc) (ok_is (num z) w e) tt
    fill_over (text t) w h e = subst (RefsOver K sc) (ok_is (text t) w e) tt
    fill_over (list vs) w h e = on_list_over K sc (fill_vals g vs) w (λ us q. fill_vals_over vs us h q) e
    fill_over (dict ps) w h e = on_dict_over K sc (fill_pairs g ps) w (λ us q. fill_pairs_over ps us h q) e
    fill_over (fun f c) w h e = on_fun_over K sc f (fill_pairs g c) w (λ us q. fill_taken g (find_fun f sc.funs) c us h.0 q)
        (λ us q. fill_pairs_over c us h.1 q) e
    fill_over (ref d) w h e = fine d w e

    fill_vals_over : (vs ws : Vals (List ℕ)) → ValsOver K sc vs → fill_vals g vs ≡ Ok ws → ValsOver K sc ws
    fill_vals_over no_vals ws h e = subst (ValsOver K sc) (ok_is no_vals ws e) tt
    fill_vals_over (val v vs) ws h e =
        on_val_over K sc (fill g v) (fill_vals g vs) ws (λ u q. fill_over v u h.0 q) (λ us q. fill_vals_over vs us h.1 q) e

    fill_pairs_over : (ps ws : Pairs (List ℕ)) → PairsOver K sc ps → fill_pairs g ps ≡ Ok ws → PairsOver K sc ws
    fill_pairs_over no_pairs ws h e = subst (PairsOver K sc) (ok_is no_pairs ws e) tt
    fill_pairs_over (pair k v ps) ws h e =
        on_pair_over K sc k (fill g v) (fill_pairs g ps) ws (λ u q. fill_over v u h.0 q) (λ us q. fill_pairs_over ps us h.1 q) e

next_is : (a b : Val (List ℕ)) → Turned.next a ≡ Turned.next b → a ≡ b
next_is a b e = cc

-- what bytes are read as, and the value of each object that is known, has nothing else inside
module _ (K : List ℕ → Type 0) (sc : Script) (reads : List ℕ → Answer (List ℕ)) (writes : Val (List ℕ) → Option (List ℕ))
    (knows : Row → Option Obj) (read_fine : (b : List ℕ) (v : Val (List ℕ)) → reads b ≡ Ok v → RefsOver K sc v)
    (known_fine : (d : Row) (v : Val (List ℕ)) → knows d ≡ Some (Object.data_of v) → RefsOver K sc v) where
  bytes_fine : (b : List ℕ) (v : Val (List ℕ)) → value_of reads (Object.bytes b) ≡ Ok v → RefsOver K sc v
  bytes_fine b v e = go (reads b) refl e
    where
      text_fine : (u : Bool) → text_if u b ≡ Ok v → RefsOver K sc v
      text_fine true e = subst (RefsOver K sc) (ok_is (text b) v e) tt
      text_fine false e = absurd cc

      go : (a : Answer (List ℕ)) → reads b ≡ a → data_or_text a b ≡ Ok v → RefsOver K sc v
      go (Ok u) q e = subst (RefsOver K sc) (ok_is u v e) (read_fine b u q)
      go (Err k) q e = text_fine (is_utf8 b) e

  seen_fine : (d : Row) (v : Val (List ℕ)) → value_seen reads (knows d) ≡ Ok v → RefsOver K sc v
  seen_fine d v e = go (knows d) refl e
    where
      go : (x : Option Obj) → knows d ≡ x → value_seen reads x ≡ Ok v → RefsOver K sc v
      go None at e = absurd cc
      go (Some (Object.bytes b)) at e = bytes_fine b v e
      go (Some (Object.data_of u)) at e = subst (RefsOver K sc) (ok_is u v e) (known_fine d u at)
      go (Some (Object.fault f)) at e = absurd cc

  all_fine : (a b : Val (List ℕ)) → SoundOver K sc a → turn_all reads writes knows a ≡ Turned.next b → SoundOver K sc b
  all_fine a b h e = go (fill (λ d. value_seen reads (knows d)) a) refl e
    where
      go : (r : Result (Val (List ℕ)) Fault) → fill (λ d. value_seen reads (knows d)) a ≡ r → next_of r ≡ Turned.next b → SoundOver K sc b
      go (Err f) q e = absurd cc
      go (Ok u) q e = within (nat_lt 100 (depth u)) refl (nat_lt 262144 (size u)) refl e
        where
          within : (s : Bool) → nat_lt 100 (depth u) ≡ s → (t : Bool) → nat_lt 262144 (size u) ≡ t → next_if s t u ≡ Turned.next b → SoundOver K sc b
          within true p t r e = absurd cc
          within false p true r e = absurd cc
          within false p false r e =
              let d : depth u ≤ 100 = ltb-false 100 (depth u) p in
              let s : size u ≤ 262144 = ltb-false 262144 (size u) r in
              subst (SoundOver K sc) (next_is u b e) (
                record { deep = d; large = s },
                fill_over K sc (λ d. value_seen reads (knows d)) seen_fine a u h.1 q,
              )

  lone_fine : (x : Option Obj) (a b : Val (List ℕ)) → SoundOver K sc a → lone x (turn_all reads writes knows a) ≡ Turned.next b → SoundOver K sc b
  lone_fine None a b h e = all_fine a b h e
  lone_fine (Some (Object.bytes c)) a b h e = absurd cc
  lone_fine (Some (Object.data_of v)) a b h e = all_fine a b h e
  lone_fine (Some (Object.fault f)) a b h e = all_fine a b h e

  refs_fine : (ds : List Row) (a b : Val (List ℕ)) → SoundOver K sc a → turn_refs reads writes knows ds a ≡ Turned.next b → SoundOver K sc b
  refs_fine [] a b h e = absurd cc
  refs_fine (d ∷ ds) (ref c) b h e = lone_fine (knows c) (ref c) b h e
  refs_fine (d ∷ ds) null b h e = all_fine null b h e
  refs_fine (d ∷ ds) (truth t) b h e = all_fine (truth t) b h e
  refs_fine (d ∷ ds) (num z) b h e = all_fine (num z) b h e
  refs_fine (d ∷ ds) (text t) b h e = all_fine (text t) b h e
  refs_fine (d ∷ ds) (list vs) b h e = all_fine (list vs) b h e
  refs_fine (d ∷ ds) (dict ps) b h e = all_fine (dict ps) b h e
  refs_fine (d ∷ ds) (fun f c) b h e = all_fine (fun f c) b h e

  -- the value at the next wave is sound
  pub next_sound : (a b : Val (List ℕ)) → SoundOver K sc a → turn_at reads writes knows a ≡ Turned.next b → SoundOver K sc b
  next_sound a b h e = refs_fine (refs a) a b h e

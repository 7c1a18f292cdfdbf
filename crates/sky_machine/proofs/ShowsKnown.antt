-- What the next value of the root task refers to came with the objects.
use Rattle.std.proofs.Common.{◌≡◌, ◌++◌, ℕ, suc, List, [], ◌∷◌, Bool, true, false, cond, flat_map, nat_lt, Option, Some, None, Result, Ok, Err, refl}
use Rattle.std.proofs.Common.{sym, ap, ◌∙◌, subst, inl, inr}
use Rattle.std.specs.Str.{is_utf8}
use Rattle.sky_base.specs.Val.{Val, Vals, Pairs, Desc, null, truth, num, text, list, dict, fun, ref, no_vals, val, no_pairs, pair, refs, depth, size}
use Rattle.sky_base.specs.Val.{distinct, same_text, same_desc}
use Rattle.sky_base.specs.Op.{Answer}
use Rattle.sky_base.specs.Tree.{Stms, Script}
use Rattle.sky_base.specs.Res.{Object, object_refs}
use Rattle.sky_base.specs.See.{Answered}
use Rattle.sky_base.specs.declared.fault.Fault.{Fault}
use Rattle.sky_base_law.specs.Refers.{Refers, ValsRefer, PairsRefer}
use Rattle.sky_base_law.specs.Tasks.{In, Each}
use Rattle.sky_base_known.specs.Data.{data_of}
use Rattle.sky_state.specs.Pending.{all_refs}
use Rattle.sky_state.specs.Stand.{Stand}
use Rattle.ciel_json.specs.Text.{text_of as writes}
use Rattle.sky_base_waves.specs.Wave.{Turned, text_if, data_or_text, value_of, value_seen, on_list, on_dict, on_fun, on_val, on_pair, fill, fill_vals}
use Rattle.sky_base_waves.specs.Wave.{fill_pairs, next_if, next_of as next_turn, lone, turn_all, turn_refs, turn_at}
use Rattle.sky_machine_show.specs.Given.{given_for}
use Rattle.sky_machine_show.specs.Shows.{Next, waits_if, wave_if, after_turn, next_of}
use Rattle.sky_machine.specs.Exactly.{Exactly}
use Rattle.sky_machine.specs.Knows.{CameWith, Known, KnowsNames}
use Rattle.sky_machine.specs.declared.step.Step.{Step}
use Rattle.sky_machine.proofs.Knows.{data_plain, from_each, in_flat}
use Rattle.sky_machine.proofs.Refs.{refs_each, each_refs}

abbrev okay : {A : Type 0} → A → Result A Fault
okay a = Ok a

ok_is : {A : Type 0} (a b : A) → okay a ≡ okay b → a ≡ b
ok_is a b e = cc

next_is : (a b : Val (List ℕ)) → Turned.next a ≡ Turned.next b → a ≡ b
next_is a b e = cc

waits_is : (a b : Val (List ℕ)) → Next.waits a ≡ Next.waits b → a ≡ b
waits_is a b e = cc

module _ (D : Desc (List ℕ) → Type 0) where
  -- ---- what stands in the place of references

  on_list_so : (r : Result (Vals (List ℕ)) Fault) (w : Val (List ℕ)) → ((us : Vals (List ℕ)) → r ≡ Ok us → ValsRefer D us) → on_list r ≡ Ok w
      → Refers D w
  on_list_so (Ok us) w f e = subst (Refers D) (ok_is (list us) w e) (f us refl)
  on_list_so (Err q) w f e = absurd cc

  on_dict_so : (r : Result (Pairs (List ℕ)) Fault) (w : Val (List ℕ)) → ((us : Pairs (List ℕ)) → r ≡ Ok us → PairsRefer D us) → on_dict r ≡ Ok w
      → Refers D w
  on_dict_so (Ok us) w f e = subst (Refers D) (ok_is (dict us) w e) (f us refl)
  on_dict_so (Err q) w f e = absurd cc

  on_fun_so : (f : List ℕ) (r : Result (Pairs (List ℕ)) Fault) (w : Val (List ℕ)) → ((us : Pairs (List ℕ)) → r ≡ Ok us → PairsRefer D us)
      → on_fun f r ≡ Ok w → Refers D w
  on_fun_so f (Ok us) w g e = subst (Refers D) (ok_is (fun f us) w e) (g us refl)
  on_fun_so f (Err q) w g e = absurd cc

  on_val_so : (r : Result (Val (List ℕ)) Fault) (s : Result (Vals (List ℕ)) Fault) (ws : Vals (List ℕ))
      → ((u : Val (List ℕ)) → r ≡ Ok u → Refers D u) → ((us : Vals (List ℕ)) → s ≡ Ok us → ValsRefer D us) → on_val r s ≡ Ok ws → ValsRefer D ws
  on_val_so (Err q) s ws f g e = absurd cc
  on_val_so (Ok u) (Err q) ws f g e = absurd cc
  on_val_so (Ok u) (Ok us) ws f g e = subst (ValsRefer D) (ok_is (val u us) ws e) (f u refl, g us refl)

  on_pair_so : (k : List ℕ) (r : Result (Val (List ℕ)) Fault) (s : Result (Pairs (List ℕ)) Fault) (ws : Pairs (List ℕ))
      → ((u : Val (List ℕ)) → r ≡ Ok u → Refers D u) → ((us : Pairs (List ℕ)) → s ≡ Ok us → PairsRefer D us) → on_pair k r s ≡ Ok ws
      → PairsRefer D ws
  on_pair_so k (Err q) s ws f g e = absurd cc
  on_pair_so k (Ok u) (Err q) ws f g e = absurd cc
  on_pair_so k (Ok u) (Ok us) ws f g e = subst (PairsRefer D) (ok_is (pair k u us) ws e) (f u refl, g us refl)

  module _ (g : Desc (List ℕ) → Result (Val (List ℕ)) Fault) (so : (d : Desc (List ℕ)) (v : Val (List ℕ)) → g d ≡ Ok v → Refers D v) where
    mutual
      fill_so : (v w : Val (List ℕ)) → fill g v ≡ Ok w → Refers D w
      fill_so null w e = subst (Refers D) (ok_is null w e) tt
      fill_so (truth b) w e = subst (Refers D) (ok_is (truth b) w e) tt
      fill_so (num z) w e = subst (Refers D) (ok_is (num z) w e) tt
      fill_so (text t) w e = subst (Refers D) (ok_is (text t) w e) tt
      fill_so (list vs) w e = on_list_so (fill_vals g vs) w (λ us q. fill_vals_so vs us q) e
      fill_so (dict ps) w e = on_dict_so (fill_pairs g ps) w (λ us q. fill_pairs_so ps us q) e
      fill_so (fun f c) w e = on_fun_so f (fill_pairs g c) w (λ us q. fill_pairs_so c us q) e
      fill_so (ref d) w e = so d w e

      fill_vals_so : (vs ws : Vals (List ℕ)) → fill_vals g vs ≡ Ok ws → ValsRefer D ws
      fill_vals_so no_vals ws e = subst (ValsRefer D) (ok_is no_vals ws e) tt
      fill_vals_so (val v vs) ws e =
          on_val_so (fill g v) (fill_vals g vs) ws (λ u q. fill_so v u q) (λ us q. fill_vals_so vs us q) e

      fill_pairs_so : (ps ws : Pairs (List ℕ)) → fill_pairs g ps ≡ Ok ws → PairsRefer D ws
      fill_pairs_so no_pairs ws e = subst (PairsRefer D) (ok_is no_pairs ws e) tt
      fill_pairs_so (pair k v ps) ws e =
          on_pair_so k (fill g v) (fill_pairs g ps) ws (λ u q. fill_so v u q) (λ us q. fill_pairs_so ps us q) e

  -- ---- a wave

  module _ (knows : Desc (List ℕ) → Option (Object (List ℕ)))
      (so : (d : Desc (List ℕ)) (o : Object (List ℕ)) → knows d ≡ Some o → Each D (object_refs o)) where
    bytes_so : (b : List ℕ) (v : Val (List ℕ)) → value_of data_of (Object.bytes b) ≡ Ok v → Refers D v
    bytes_so b v e = go (data_of b) refl e
      where
        text_so : (u : Bool) → text_if u b ≡ Ok v → Refers D v
        text_so true e = subst (Refers D) (ok_is (text b) v e) tt
        text_so false e = absurd cc

        go : (a : Answer (List ℕ)) → data_of b ≡ a → data_or_text a b ≡ Ok v → Refers D v
        go (Ok u) q e = subst (Refers D) (ok_is u v e)
            (each_refs D u (subst (Each D) (sym (data_plain (λ x. x) (record { funs = []; main = Stms.no_stms; keys = [] }) b u q)) tt))
        go (Err k) q e = text_so (is_utf8 b) e

    seen_so : (d : Desc (List ℕ)) (v : Val (List ℕ)) → value_seen data_of (knows d) ≡ Ok v → Refers D v
    seen_so d v e = go (knows d) refl e
      where
        go : (x : Option (Object (List ℕ))) → knows d ≡ x → value_seen data_of x ≡ Ok v → Refers D v
        go None at e = absurd cc
        go (Some (Object.bytes b)) at e = bytes_so b v e
        go (Some (Object.data_of u)) at e = subst (Refers D) (ok_is u v e) (each_refs D u (so d (Object.data_of u) at))
        go (Some (Object.fault f)) at e = absurd cc

    all_so : (a b : Val (List ℕ)) → turn_all data_of writes knows a ≡ Turned.next b → Refers D b
    all_so a b e = go (fill (λ d. value_seen data_of (knows d)) a) refl e
      where
        go : (r : Result (Val (List ℕ)) Fault) → fill (λ d. value_seen data_of (knows d)) a ≡ r → next_turn r ≡ Turned.next b → Refers D b
        go (Err f) q e = absurd cc
        go (Ok u) q e = within (nat_lt 100 (depth u)) (nat_lt 262144 (size u)) e
          where
            within : (s t : Bool) → next_if s t u ≡ Turned.next b → Refers D b
            within true t e = absurd cc
            within false true e = absurd cc
            within false false e = subst (Refers D) (next_is u b e) (fill_so (λ d. value_seen data_of (knows d)) seen_so a u q)

    lone_so : (x : Option (Object (List ℕ))) (a b : Val (List ℕ)) → lone x (turn_all data_of writes knows a) ≡ Turned.next b → Refers D b
    lone_so None a b e = all_so a b e
    lone_so (Some (Object.bytes c)) a b e = absurd cc
    lone_so (Some (Object.data_of v)) a b e = all_so a b e
    lone_so (Some (Object.fault f)) a b e = all_so a b e

    refs_so : (ds : List (Desc (List ℕ))) (a b : Val (List ℕ)) → turn_refs data_of writes knows ds a ≡ Turned.next b → Refers D b
    refs_so [] a b e = absurd cc
    refs_so (d ∷ ds) (ref c) b e = lone_so (knows c) (ref c) b e
    refs_so (d ∷ ds) null b e = all_so null b e
    refs_so (d ∷ ds) (truth t) b e = all_so (truth t) b e
    refs_so (d ∷ ds) (num z) b e = all_so (num z) b e
    refs_so (d ∷ ds) (text t) b e = all_so (text t) b e
    refs_so (d ∷ ds) (list vs) b e = all_so (list vs) b e
    refs_so (d ∷ ds) (dict ps) b e = all_so (dict ps) b e
    refs_so (d ∷ ds) (fun f c) b e = all_so (fun f c) b e

-- ---- what is given

given_in : (es : List (Desc (List ℕ))) (os : List (Object (List ℕ))) (d : Desc (List ℕ)) (o : Object (List ℕ)) → given_for es os d ≡ Some o → In o os
given_in [] os d o e = absurd cc
given_in (x ∷ es) [] d o e = absurd cc
given_in (x ∷ es) (p ∷ os) d o e = go (same_desc same_text d x) (λ q. given_in es os d o q) e
  where
    go : (b : Bool) → (given_for es os d ≡ Some o → In o os) → cond b (Some p) (given_for es os d) ≡ Some o → In o (p ∷ os)
    go true more e = inl cc
    go false more e = inr (more e)

-- where the root task waits next, its turn came to the next value
turned_next : (t : Turned) (w : ℕ) (u : Val (List ℕ)) → after_turn t w ≡ Next.waits u → t ≡ Turned.next u
turned_next (Turned.ends a) w u e = absurd cc
turned_next (Turned.next v) w u e = go (nat_lt 100 w) e
  where
    some : (ds : List (Desc (List ℕ))) → waits_if ds v ≡ Next.waits u → Turned.next v ≡ Turned.next u
    some [] e = absurd cc
    some (d ∷ ds) e = ap Turned.next (waits_is v u e)

    go : (b : Bool) → wave_if b v ≡ Next.waits u → Turned.next v ≡ Turned.next u
    go true e = absurd cc
    go false e = some (refs v) e

none_made : (earlier later : List (Desc (List ℕ))) (m : Desc (List ℕ)) → [] ≡ earlier ++ m ∷ later → ⊥
none_made [] later m e = cc
none_made (x ∷ xs) later m e = cc

module _ (digest : List ℕ → List ℕ) (sc : Script) (os : List (Object (List ℕ))) (v : Val (List ℕ)) (w : ℕ) where
  abbrev K : Desc (List ℕ) → Type 0
  K d = Known digest (CameWith (Stand.show_at v w) os) [] d

  object_known : (o : Object (List ℕ)) → In o os → Each K (object_refs o)
  object_known o i = from_each K (object_refs o) (λ d j. inl (inr (in_flat object_refs os o d i j)))

  next_known : (u : Val (List ℕ)) → next_of os v w ≡ Next.waits u → Each K (refs u)
  next_known u e =
      let knows = given_for (distinct same_text (refs v)) os in
      refs_each K u (refs_so K knows (λ d o at. object_known o (given_in (distinct same_text (refs v)) os d o at)) (refs v) v u
      (turned_next (turn_at data_of writes knows v) (suc w) u e))

  pub root_knows : (new : Stand (List ℕ)) (s : Step) → Exactly digest sc os (Stand.show_at v w) new s
      → KnowsNames digest (CameWith (Stand.show_at v w) os) s new [] []
  root_knows new (Step.Ended o) h = absurd h
  root_knows new Step.Waits (u, e, is) =
      record {
        made = [];
        grew = refl;
        within = λ earlier later m q. absurd (none_made earlier later m q);
        leaves =
            subst (λ (x : Stand (List ℕ)). Each K (all_refs x)) (sym is) (next_known u e);
      }
  root_knows new (Step.Shown a) h =
      record { made = []; grew = refl; within = λ earlier later m q. absurd (none_made earlier later m q); leaves = tt }

-- References in values and one by one; and the closed properties of runs over names that they are.
use Rattle.std.proofs.Common.{◌≡◌, ℕ, List, [], ◌∷◌, ◌++◌, map, Option, Some, None, Ok, Err, refl, sym, subst}
use Rattle.sky_base.specs.Val.{Val, Vals, Pairs, Desc, null, truth, num, text, list, dict, fun, ref, no_vals, val, no_pairs, pair, call, out, input}
use Rattle.sky_base.specs.Val.{known, refs, vals_refs, pairs_refs, vals_of}
use Rattle.sky_base.specs.Op.{Answer, limited, dict_from, index, keys, has, len, negated, opposite}
use Rattle.sky_base.specs.Eval.{World, caught_by, oper, lit_val}
use Rattle.sky_base_law.specs.Tasks.{Each}
use Rattle.sky_base_law.specs.Refers.{Refers, ValsRefer, PairsRefer}
use Rattle.sky_base_law.proofs.FineLaw.{Closed, AnswerOk, OptionOk, ValsOk}
use Rattle.sky_base_law.proofs.Lists.{each_both}
use Rattle.sky_base_law.proofs.RefersOps.{AnswerRefers, OptionRefers, simple_refers, limited_refers, put_refers, find_refers, caught_refers, oper_refers}
use Rattle.sky_base_law.proofs.RefersOps.{index_refers, set_at_refers, grown_refers, len_refers, keys_refers, range_refers, list_refers, dict_refers}
use Rattle.sky_base_law.proofs.RefersOps.{lit_refers, refs_refers}
use Rattle.sky_base_law.proofs.SimpleOps.{negated_simple, opposite_simple, has_simple}
use Rattle.sky_base_law.proofs.WrittenLaw.{any_lit, any_name}
use Rattle.sky_machine.specs.Knows.{inside_refs}

module _ {N : Type 0} (D : Desc N → Type 0) where
  pub left : (xs ys : List (Desc N)) → Each D (xs ++ ys) → Each D xs
  left [] ys h = tt
  left (x ∷ xs) ys h = (h.0, left xs ys h.1)

  pub right : (xs ys : List (Desc N)) → Each D (xs ++ ys) → Each D ys
  right [] ys h = h
  right (x ∷ xs) ys h = right xs ys h.1

  mutual
    pub refs_each : (a : Val N) → Refers D a → Each D (refs a)
    refs_each null h = tt
    refs_each (truth b) h = tt
    refs_each (num z) h = tt
    refs_each (text t) h = tt
    refs_each (list vs) h = vals_each vs h
    refs_each (dict ps) h = pairs_each ps h
    refs_each (fun f c) h = pairs_each c h
    refs_each (ref d) h = (h, tt)

    pub vals_each : (vs : Vals N) → ValsRefer D vs → Each D (vals_refs vs)
    vals_each no_vals h = tt
    vals_each (val a vs) h = each_both D (refs a) (vals_refs vs) (refs_each a h.0) (vals_each vs h.1)

    pub pairs_each : (ps : Pairs N) → PairsRefer D ps → Each D (pairs_refs ps)
    pairs_each no_pairs h = tt
    pairs_each (pair k a ps) h = each_both D (refs a) (pairs_refs ps) (refs_each a h.0) (pairs_each ps h.1)

  mutual
    pub each_refs : (a : Val N) → Each D (refs a) → Refers D a
    each_refs null h = tt
    each_refs (truth b) h = tt
    each_refs (num z) h = tt
    each_refs (text t) h = tt
    each_refs (list vs) h = each_vals vs h
    each_refs (dict ps) h = each_pairs ps h
    each_refs (fun f c) h = each_pairs c h
    each_refs (ref d) h = h.0

    pub each_vals : (vs : Vals N) → Each D (vals_refs vs) → ValsRefer D vs
    each_vals no_vals h = tt
    each_vals (val a vs) h =
        (each_refs a (left (refs a) (vals_refs vs) h), each_vals vs (right (refs a) (vals_refs vs) h))

    pub each_pairs : (ps : Pairs N) → Each D (pairs_refs ps) → PairsRefer D ps
    each_pairs no_pairs h = tt
    each_pairs (pair k a ps) h =
        (each_refs a (left (refs a) (pairs_refs ps) h), each_pairs ps (right (refs a) (pairs_refs ps) h))

  -- what stands inside a description
  abbrev pub Inside : Desc N → Type 0
  Inside (call f c vs) = PairsRefer D c × ValsRefer D vs
  Inside (out x a n i) = Refers D a
  Inside (input k) = Unit {0}
  Inside (known b) = Unit {0}

  pub inside_each : (d : Desc N) → Inside d → Each D (inside_refs d)
  inside_each (call f c vs) h = each_both D (pairs_refs c) (vals_refs vs) (pairs_each c h.0) (vals_each vs h.1)
  inside_each (out x a n i) h = refs_each a h
  inside_each (input k) h = tt
  inside_each (known b) h = tt

-- w reads data that refers to nothing
module _ (w : World (List ℕ)) (plain : (b : List ℕ) (v : Val (List ℕ)) → w.reads b ≡ Ok v → refs v ≡ []) (D : Desc (List ℕ) → Type 0) where
  abbrev pub P : Val (List ℕ) → Type 0
  P a = Refers D a

  abbrev pub Q : Desc (List ℕ) → Type 0
  Q d = Inside D d

  abbrev pub V : Pairs (List ℕ) → Type 0
  V ps = PairsRefer D ps

  -- the reference to a description that is made
  abbrev pub M : Desc (List ℕ) → Type 0
  M d = D (w.make d)

  answered : (o : Answer (List ℕ)) → AnswerRefers (List ℕ) D o → AnswerOk w P Q o
  answered (Ok a) h = h
  answered (Err k) h = tt

  found : (o : Option (Val (List ℕ))) → OptionRefers (List ℕ) D o → OptionOk w P Q o
  found (Some a) h = h
  found None h = tt

  vals_so : (vs : Vals (List ℕ)) → ValsRefer D vs → ValsOk w P Q vs
  vals_so no_vals h = tt
  vals_so (val a vs) h = (h.0, vals_so vs h.1)

  pub read_so : (o : Answer (List ℕ)) (b : List ℕ) → w.reads b ≡ o → AnswerOk w P Q o
  read_so (Ok a) b e = each_refs D a (subst (Each D) (sym (plain b a e)) tt)
  read_so (Err k) b e = tt

  pub closed : Closed w P Q V M any_lit any_name
  closed =
      record {
        null_ok = tt;
        truth_ok = λ b. tt;
        taken_ok = λ t vs h le. tt;
        lit_ok = λ l i. answered (limited (lit_val l)) (lit_refers (List ℕ) D l);
        put_ok = λ x a ps k h l. put_refers (List ℕ) D x a ps h l;
        find_ok = λ x ps l. found _ (find_refers (List ℕ) D x ps l);
        fun_ok = λ x k i. answered (limited (fun x no_pairs)) (limited_refers (List ℕ) D (fun x no_pairs) tt);
        closed_ok = λ f x ps k e l. answered (limited (fun x (caught_by f.uses ps)))
            (limited_refers (List ℕ) D (fun x (caught_by f.uses ps)) (caught_refers (List ℕ) D f.uses ps l));
        caught_ok = λ f ca h. h;
        list_ok = λ vs h. answered (limited (list (vals_of vs))) (list_refers (List ℕ) D vs h);
        dict_ok = λ vs h. answered (dict_from vs no_pairs) (dict_refers (List ℕ) D vs no_pairs h tt);
        oper_ok = λ o a b h i. answered (oper o a b) (oper_refers (List ℕ) D o a b h i);
        index_ok = λ a i h. answered (index a i) (index_refers (List ℕ) D a i h);
        set_ok = λ a i e h g r. answered _ (set_at_refers (List ℕ) D a i e h r);
        grown_ok = λ a e h i. answered _ (grown_refers (List ℕ) D a e h i);
        negated_ok = λ a. answered (negated a) (simple_refers (List ℕ) D (negated a) (negated_simple (List ℕ) a));
        opposite_ok = λ a. answered (opposite a) (simple_refers (List ℕ) D (opposite a) (opposite_simple (List ℕ) a));
        len_ok = λ a h. answered (len a) (len_refers (List ℕ) D a);
        keys_ok = λ a h. answered (keys a) (keys_refers (List ℕ) D a);
        has_ok = λ a k. answered (has a k) (simple_refers (List ℕ) D (has a k) (has_simple (List ℕ) a k));
        range_ok = λ a b h i. answered _ (range_refers (List ℕ) D a b);
        inside_ok = λ vs h. vals_so vs h;
        reads_ok = λ b. read_so (w.reads b) b refl;
        ref_ok = λ d h m. m;
        refs_ok = λ ds le h. refs_refers (List ℕ) D ds h;
        call_ok = λ f ca vs x e n z h. (z, h);
        out_ok = λ x a n i t h lt le. h;
        input_ok = λ k t e. tt;
      }

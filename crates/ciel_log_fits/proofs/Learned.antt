-- The names that have rows once descriptions are learned.
use Rattle.std.proofs.Common.{◌≡◌, ℕ, suc, List, [], ◌∷◌, ◌++◌, Bool, true, false, ◌||◌, cond, is_some, Option, Some, None, map, inl, inr}
use Rattle.std.proofs.Common.{refl, sym, ap, ◌∙◌, subst, option_map}
use Rattle.std.specs.BTreeSet.{BTreeSet, Updates, contains}
use Rattle.std.specs.BTreeMap.{is_at}
use Rattle.std.specs.List.{AllByRecursion}
use Rattle.sky_base.specs.NameOrder.{name_cmp}
use Rattle.sky_base.specs.Name.{held_name}
use Rattle.sky_base.specs.Res.{Object, object_refs}
use Rattle.sky_base.specs.Val.{Desc, Val, Vals, Pairs, null, truth, num, text, list, dict, fun, ref, no_vals, val, no_pairs, pair, distinct, pairs_refs, refs}
use Rattle.sky_base.specs.Val.{same_text, vals_refs}
use Rattle.sky_base.specs.View.{view}
use Rattle.sky_base.specs.declared.object.Desc1.{Desc1}
use Rattle.sky_base.specs.declared.object.Named.{Named}
use Rattle.sky_base.proofs.Exact.{exact_text, self_text}
use Rattle.sky_base_law.specs.Tasks.{In}
use Rattle.sky_base_law.proofs.TaskOutputs.{distinct_in, in_distinct}
use Rattle.ciel_journal.specs.Job.{Each}
use Rattle.sky_base.proofs.NameTests.{same_test}
use Rattle.ciel_table.specs.Learning.{learned, new_row, rows_after}
use Rattle.ciel_table.specs.Named.{place_of}
use Rattle.ciel_table.specs.Seen.{Known, TableSeen, find, row_name}
use Rattle.ciel_want.specs.Waited.{AllKnown, names_of}
use Rattle.ciel_master_board.specs.Reports.{learned_all}
use Rattle.ciel_master_board.specs.Board.{start_refs}
use Rattle.ciel_log_fits.specs.Known.{AfterSeen, NamesIn, NamesInDesc, NamesInObject, NamesInPairs, NamesInVals, is_named, knows}

-- ---- a set of names with one more

on_cond : (b c : Bool) → cond b true c ≡ b || c
on_cond true c = refl
on_cond false c = refl

pub added : (old new : BTreeSet (List ℕ)) (k n : List ℕ) → Updates name_cmp old new k true
    → contains name_cmp new n ≡ same_text n k || contains name_cmp old n
added old new k n u =
    u.0 n ∙ on_cond (is_at (name_cmp k) n) (contains name_cmp old n) ∙ ap (λ b. b || contains name_cmp old n) (same_test k n)

-- ---- what is found in a list with one more at the end

module _ {X : Type 0} (name : X → List ℕ) where
  one_more : (n : List ℕ) (xs : List X) (x : X) → is_some (place_of name n (xs ++ x ∷ [])) ≡ is_some (place_of name n xs) || same_text n (name x)
  one_more n [] x = last (same_text n (name x))
    where
      last : (b : Bool) → is_some (cond b (Some 0) (option_map suc None)) ≡ b
      last true = refl
      last false = refl
  one_more n (y ∷ ys) x = go (same_text n (name y)) (place_of name n (ys ++ x ∷ [])) (place_of name n ys) (one_more n ys x)
    where
      mapped : (o : Option ℕ) → is_some (option_map suc o) ≡ is_some o
      mapped None = refl
      mapped (Some i) = refl

      go : (b : Bool) (o p : Option ℕ) → is_some o ≡ is_some p || same_text n (name x)
          → is_some (cond b (Some 0) (option_map suc o)) ≡ is_some (cond b (Some 0) (option_map suc p)) || same_text n (name x)
      go true o p e = refl
      go false o p e = mapped o ∙ e ∙ ap (λ b. b || same_text n (name x)) (sym (mapped p))

or_turn : (a b : Bool) → a || b ≡ b || a
or_turn true true = refl
or_turn true false = refl
or_turn false true = refl
or_turn false false = refl

or_into : (a b c : Bool) → (a || b) || c ≡ a || (b || c)
or_into true b c = refl
or_into false b c = refl

module _ {P : Type 0} (digest : List ℕ → List ℕ) where
  learns : (n : List ℕ) (d : Named) (t : TableSeen P) → is_some (find n (learned digest d t)) ≡ is_some (find n t) || same_text n d.name
  learns n d t = go (find d.name t) refl
    where
      there : (i : ℕ) → find d.name t ≡ Some i → (b : Bool) → same_text n d.name ≡ b → is_some (find n t) ≡ is_some (find n t) || b
      there i e true s =
          let f : is_some (find n t) ≡ true = ap (λ m. is_some (find m t)) (exact_text n d.name s) ∙ ap is_some e in
          f ∙ ap (λ b. b || true) (sym f)
      there i e false s = or_turn false (is_some (find n t))

      go : (o : Option ℕ) → find d.name t ≡ o
          → is_some (place_of (row_name {P = P}) n (rows_after o digest d t.rows)) ≡ is_some (find n t) || same_text n d.name
      go None e = one_more row_name n t.rows (new_row digest d)
      go (Some i) e = there i e (same_text n d.name) refl

  pub known_is : (n : List ℕ) (ns : List Named) (t : TableSeen P) → is_some (find n (learned_all digest ns t)) ≡ is_some (find n t) || is_named n ns
  known_is n [] t = or_turn false (is_some (find n t))
  known_is n (d ∷ ns) t =
      known_is n ns (learned digest d t) ∙ ap (λ b. b || is_named n ns) (learns n d t)
      ∙ or_into (is_some (find n t)) (same_text n d.name) (is_named n ns)

module _ {P : Type 0} (a : AfterSeen P) (digest : List ℕ → List ℕ) where
  pub known : (n : List ℕ) → knows a n ≡ true → Known (learned_all digest a.spawned a.table) n
  known n e = known_is digest n a.spawned a.table ∙ e

  pub unknown : (n : List ℕ) → Known (learned_all digest a.spawned a.table) n → knows a n ≡ true
  unknown n h = sym (known_is digest n a.spawned a.table) ∙ h

  pub all_known : (ns : List (List ℕ)) → AllByRecursion (λ (n : List ℕ). knows a n ≡ true) ns → AllKnown (learned_all digest a.spawned a.table) ns
  all_known [] h = tt
  all_known (n ∷ ns) h = (known n h.0, all_known ns h.1)

  pub known_all : (ns : List (List ℕ)) → AllKnown (learned_all digest a.spawned a.table) ns → AllByRecursion (λ (n : List ℕ). knows a n ≡ true) ns
  known_all [] h = tt
  known_all (n ∷ ns) h = (unknown n h.0, known_all ns h.1)

-- ---- the names in values

module _ (p : List ℕ → Bool) where
  abbrev pub OfAll : List (Desc (List ℕ)) → Type 0
  OfAll ds = AllByRecursion (λ (d : Desc (List ℕ)). p (held_name d) ≡ true) ds

  join : (ds es : List (Desc (List ℕ))) → OfAll ds → OfAll es → OfAll (ds ++ es)
  join [] es h g = g
  join (d ∷ ds) es h g = (h.0, join ds es h.1 g)

  front : (ds es : List (Desc (List ℕ))) → OfAll (ds ++ es) → OfAll ds
  front [] es h = tt
  front (d ∷ ds) es h = (h.0, front ds es h.1)

  back : (ds es : List (Desc (List ℕ))) → OfAll (ds ++ es) → OfAll es
  back [] es h = h
  back (d ∷ ds) es h = back ds es h.1

  mutual
    of_value : (v : Val (List ℕ)) → NamesIn p v → OfAll (refs v)
    of_value null h = tt
    of_value (truth b) h = tt
    of_value (num z) h = tt
    of_value (text t) h = tt
    of_value (list vs) h = of_vals vs h
    of_value (dict ps) h = of_pairs ps h
    of_value (fun f c) h = of_pairs c h
    of_value (ref d) h = (h, tt)

    of_vals : (vs : Vals (List ℕ)) → NamesInVals p vs → OfAll (vals_refs vs)
    of_vals no_vals h = tt
    of_vals (val v vs) h = join (refs v) (vals_refs vs) (of_value v h.0) (of_vals vs h.1)

    of_pairs : (ps : Pairs (List ℕ)) → NamesInPairs p ps → OfAll (pairs_refs ps)
    of_pairs no_pairs h = tt
    of_pairs (pair k v ps) h = join (refs v) (pairs_refs ps) (of_value v h.0) (of_pairs ps h.1)

  mutual
    value_of : (v : Val (List ℕ)) → OfAll (refs v) → NamesIn p v
    value_of null h = tt
    value_of (truth b) h = tt
    value_of (num z) h = tt
    value_of (text t) h = tt
    value_of (list vs) h = vals_of vs h
    value_of (dict ps) h = pairs_of ps h
    value_of (fun f c) h = pairs_of c h
    value_of (ref d) h = h.0

    vals_of : (vs : Vals (List ℕ)) → OfAll (vals_refs vs) → NamesInVals p vs
    vals_of no_vals h = tt
    vals_of (val v vs) h = (value_of v (front (refs v) (vals_refs vs) h), vals_of vs (back (refs v) (vals_refs vs) h))

    pairs_of : (ps : Pairs (List ℕ)) → OfAll (pairs_refs ps) → NamesInPairs p ps
    pairs_of no_pairs h = tt
    pairs_of (pair k v ps) h = (value_of v (front (refs v) (pairs_refs ps) h), pairs_of ps (back (refs v) (pairs_refs ps) h))

  -- ---- each once

  at : (ds : List (Desc (List ℕ))) → OfAll ds → (d : Desc (List ℕ)) → In d ds → p (held_name d) ≡ true
  at [] h d i = absurd i
  at (e ∷ ds) h d (inl q) = ap (λ x. p (held_name x)) q ∙ h.0
  at (e ∷ ds) h d (inr i) = at ds h.1 d i

  each : (ds : List (Desc (List ℕ))) → ((d : Desc (List ℕ)) → In d ds → p (held_name d) ≡ true) → OfAll ds
  each [] h = tt
  each (d ∷ ds) h = (h d (inl refl), each ds (λ e i. h e (inr i)))

  once : (ds : List (Desc (List ℕ))) → OfAll ds → OfAll (distinct same_text ds)
  once ds h = each (distinct same_text ds) (λ d i. at ds h d (distinct_in same_text exact_text self_text ds d i))

  often : (ds : List (Desc (List ℕ))) → OfAll (distinct same_text ds) → OfAll ds
  often ds h = each ds (λ d i. at (distinct same_text ds) h d (in_distinct same_text exact_text self_text ds d i))

-- ---- and their rows

module _ {P : Type 0} (a : AfterSeen P) (digest : List ℕ → List ℕ) where
  abbrev then : TableSeen P
  then = learned_all digest a.spawned a.table

  of_names : (ds : List (Desc (List ℕ))) → OfAll (knows a) ds → AllKnown then (names_of ds)
  of_names [] h = tt
  of_names (d ∷ ds) h = (known a digest (held_name d) h.0, of_names ds h.1)

  names_are : (ds : List (Desc (List ℕ))) → AllKnown then (names_of ds) → OfAll (knows a) ds
  names_are [] h = tt
  names_are (d ∷ ds) h = (unknown a digest (held_name d) h.0, names_are ds h.1)

  mapped : (ds : List (Desc (List ℕ))) → names_of ds ≡ map held_name ds
  mapped [] = refl
  mapped (d ∷ ds) = ap (λ ns. held_name d ∷ ns) (mapped ds)

  pub object_known : (o : Object (List ℕ)) → NamesInObject (knows a) o → AllKnown then (map held_name (object_refs o))
  object_known (Object.bytes b) h = tt
  object_known (Object.data_of v) h = subst (AllKnown then) (mapped (refs v)) (of_names (refs v) (of_value (knows a) v h))
  object_known (Object.fault f) h = tt

  pub known_object : (o : Object (List ℕ)) → AllKnown then (map held_name (object_refs o)) → NamesInObject (knows a) o
  known_object (Object.bytes b) h = tt
  known_object (Object.data_of v) h = value_of (knows a) v (names_are (refs v) (subst (AllKnown then) (sym (mapped (refs v))) h))
  known_object (Object.fault f) h = tt

  desc_known : (d : Desc1) → NamesInDesc (knows a) d → AllKnown then (start_refs d)
  desc_known (Desc1.Call f c vs) h =
      let ds = pairs_refs c ++ vals_refs vs in
      of_names (distinct same_text ds)
      (once (knows a) ds (join (knows a) (pairs_refs c) (vals_refs vs) (of_pairs (knows a) c h.0) (of_vals (knows a) vs h.1)))
  desc_known (Desc1.Exec x v n i) h = of_names (distinct same_text (refs (view v))) (once (knows a) (refs (view v)) (of_value (knows a) (view v) h))
  desc_known (Desc1.Input k) h = tt

  known_desc : (d : Desc1) → AllKnown then (start_refs d) → NamesInDesc (knows a) d
  known_desc (Desc1.Call f c vs) h =
      let ds = pairs_refs c ++ vals_refs vs in
      let all = often (knows a) ds (names_are (distinct same_text ds) h) in
      (pairs_of (knows a) c (front (knows a) (pairs_refs c) (vals_refs vs) all), vals_of (knows a) vs (back (knows a) (pairs_refs c) (vals_refs vs) all))
  known_desc (Desc1.Exec x v n i) h = value_of (knows a) (view v) (often (knows a) (refs (view v)) (names_are (distinct same_text (refs (view v))) h))
  known_desc (Desc1.Input k) h = tt

  pub all_inside : (ns : List Named) → Each (λ (n : Named). NamesInDesc (knows a) n.desc) ns → Each (λ (n : Named). AllKnown then (start_refs n.desc)) ns
  all_inside [] h = tt
  all_inside (n ∷ ns) h = (desc_known n.desc h.0, all_inside ns h.1)

  pub inside_all : (ns : List Named) → Each (λ (n : Named). AllKnown then (start_refs n.desc)) ns → Each (λ (n : Named). NamesInDesc (knows a) n.desc) ns
  inside_all [] h = tt
  inside_all (n ∷ ns) h = (known_desc n.desc h.0, inside_all ns h.1)

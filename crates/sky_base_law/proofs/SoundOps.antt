-- Each operator gives values within the limits from values within the limits, and refers to nothing else than these do.
use Rattle.std.proofs.Common.{◌≡◌, ℕ, ℤ, zero, suc, ◌+◌, ◌*◌, ◌≤◌, Bool, true, false, List, [], ◌∷◌, ◌++◌, length, Option, Some, None, Ok, Err}
use Rattle.std.proofs.Common.{nat_lt, pos, negsuc, ◌+ℤ◌, ◌-ℤ◌, int_rem, refl, ap, arith, ltb-false, inr, subst, sym, ◌∙◌, IsSome}
use Rattle.std.specs.Option.{option_map}
use Rattle.std.specs.Ordering.{nat_cmp, match_ordering}
use Rattle.std.specs.Cmp.Lexicographic.{slice_cmp}
use Rattle.std.specs.declared.cmp.Ordering.{Ordering}
use Rattle.sky_base.specs.Val.{Val, Vals, Pairs, Desc, null, truth, num, text, list, dict, fun, ref, no_vals, val, no_pairs, pair, add_val, vals_of}
use Rattle.sky_base.specs.Val.{refs_to, size, sizes, depth, depths, pair_sizes, pair_depths, count}
use Rattle.sky_base.specs.Op.{Answer, checked, unless, limited, join, plus, minus, times, over, rest, rest_num, val_at, find, put, or_else, index}
use Rattle.sky_base.specs.Op.{put_val, limited_list, set_at, compare, negated, opposite, len, all_keys, keys, has, numbers, range_if, range, span}
use Rattle.sky_base.specs.Op.{grown, with_key, dict_from}
use Rattle.sky_base.specs.Tree.{Lit, Oper, FunDef, Script}
use Rattle.sky_base.specs.Eval.{World, find_fun, is_one_of, caught_if, caught_by, lit_val, oper}
use Rattle.sky_base_law.specs.Sound.{AllUsed, TakesIf, CallsIf, RefsOver, ValsOver, PairsOver, DescOver, SoundOver}
use Rattle.sky_base_law.specs.Tasks.{Each}
use Rattle.sky_base.specs.Kept.{Kept}
use Rattle.sky_base_law.proofs.FineLaw.{Closed, PairsOk, put_each, find_each}
use Rattle.sky_base_law.proofs.SimpleOps.{Atom, Simple, checked_simple, minus_simple, times_simple, over_simple, compare_simple, negated_simple}
use Rattle.sky_base_law.proofs.SimpleOps.{opposite_simple, has_simple}
use Rattle.sky_base_law.proofs.WrittenLaw.{any_lit, any_made, any_name}

-- what a function captured keeps the limits as a dictionary does
pub caught_kept : {N : Type 0} (f : List ℕ) (ps : Pairs N) → Kept (fun f ps) → Kept (dict ps)
caught_kept f ps h =
    let d : 1 + pair_depths ps ≤ 100 = h.deep in
    let s : 1 + (length f + pair_sizes ps) ≤ 262144 = h.large in
    record { deep = omega arith; large = omega arith }

module _ (N : Type 0) (K : N → Type 0) (sc : Script) where
  -- what an operator gives is sound
  abbrev pub SoundAnswer : Answer N → Type 0
  SoundAnswer (Ok v) = SoundOver K sc v
  SoundAnswer (Err k) = Unit {0}

  abbrev pub SoundPairs : Pairs N → Type 0
  SoundPairs no_pairs = Unit {0}
  SoundPairs (pair k v ps) = SoundOver K sc v × SoundPairs ps

  abbrev pub SoundOption : Option (Val N) → Type 0
  SoundOption None = Unit {0}
  SoundOption (Some v) = SoundOver K sc v

  abbrev SoundVals : Vals N → Type 0
  SoundVals no_vals = Unit {0}
  SoundVals (val v vs) = SoundOver K sc v × SoundVals vs

  -- a value of size and depth 1
  sound_one : (v : Val N) → depth v ≡ 1 → size v ≡ 1 → RefsOver K sc v → SoundOver K sc v
  sound_one v d s r = (record { deep = omega arith; large = omega arith }, r)

  sound_num : (z : ℤ) → SoundOver {N = N} K sc (num z)
  sound_num z = sound_one (num z) refl refl tt

  sound_truth : (b : Bool) → SoundOver {N = N} K sc (truth b)
  sound_truth b = sound_one (truth b) refl refl tt

  sound_null : SoundOver {N = N} K sc null
  sound_null = sound_one null refl refl tt

  -- ---- what is tested against the limits

  limited_ok : (v : Val N) → RefsOver K sc v → SoundAnswer (limited v)
  limited_ok v r = go (nat_lt 100 (depth v)) (nat_lt 262144 (size v)) refl refl
    where
      go : (a b : Bool) → nat_lt 100 (depth v) ≡ a → nat_lt 262144 (size v) ≡ b → SoundAnswer (unless a b v)
      go true b e f = tt
      go false true e f = tt
      go false false e f =
          let d : depth v ≤ 100 = ltb-false 100 (depth v) e in
          let s : size v ≤ 262144 = ltb-false 262144 (size v) f in
          (record { deep = d; large = s }, r)

  atom_sound : (v : Val N) → Atom N v → SoundOver K sc v
  atom_sound null h = sound_null
  atom_sound (truth b) h = sound_truth b
  atom_sound (num z) h = sound_num z
  atom_sound (text t) h = absurd h
  atom_sound (list vs) h = absurd h
  atom_sound (dict ps) h = absurd h
  atom_sound (fun f c) h = absurd h
  atom_sound (ref d) h = absurd h

  simple_sound : (o : Answer N) → Simple N o → SoundAnswer o
  simple_sound (Ok v) h = atom_sound v h
  simple_sound (Err k) h = tt

  -- ---- parts of values

  vals_inside : (vs : Vals N) → depths vs ≤ 100 → sizes vs ≤ 262144 → ValsOver K sc vs → SoundVals vs
  vals_inside no_vals d s r = tt
  vals_inside (val v vs) d s r =
      ((record { deep = omega arith; large = omega arith }, r.0), vals_inside vs (omega arith) (omega arith) r.1)

  list_inside : (vs : Vals N) → SoundOver K sc (list vs) → SoundVals vs
  list_inside vs h =
      let d : 1 + depths vs ≤ 100 = h.0.deep in
      let s : 1 + sizes vs ≤ 262144 = h.0.large in
      vals_inside vs (omega arith) (omega arith) h.1

  pairs_inside : (ps : Pairs N) → pair_depths ps ≤ 100 → pair_sizes ps ≤ 262144 → PairsOver K sc ps → SoundPairs ps
  pairs_inside no_pairs d s r = tt
  pairs_inside (pair k v ps) d s r =
      ((record { deep = omega arith; large = omega arith }, r.0), pairs_inside ps (omega arith) (omega arith) r.1)

  pub dict_inside : (ps : Pairs N) → SoundOver K sc (dict ps) → SoundPairs ps
  dict_inside ps h =
      let d : 1 + pair_depths ps ≤ 100 = h.0.deep in
      let s : 1 + pair_sizes ps ≤ 262144 = h.0.large in
      pairs_inside ps (omega arith) (omega arith) h.1

  takes_none : (o : Option FunDef) → IsSome o → TakesIf {N = N} o no_pairs
  takes_none (Some f) i = tt
  takes_none None i = absurd cc

  all_used : (us : List (List ℕ)) (ps : Pairs N) → AllUsed us (caught_by us ps)
  all_used us no_pairs = tt
  all_used us (pair k v ps) = go (is_one_of k us) refl (all_used us ps)
    where
      go : (b : Bool) → is_one_of k us ≡ b → AllUsed us (caught_by us ps) → AllUsed us (caught_if b k v (caught_by us ps))
      go true e h = (e, h)
      go false e h = h

  caught_refs : (us : List (List ℕ)) (ps : Pairs N) → SoundPairs ps → PairsOver K sc (caught_by us ps)
  caught_refs us no_pairs h = tt
  caught_refs us (pair k v ps) h = go (is_one_of k us) (caught_refs us ps h.1)
    where
      go : (b : Bool) → PairsOver K sc (caught_by us ps) → PairsOver K sc (caught_if b k v (caught_by us ps))
      go true i = (h.0.1, i)
      go false i = i

  calls_if : (o : Option FunDef) (x : FunDef) (c : Pairs N) (vs : Vals N) → o ≡ Some x → length x.params ≡ count vs → TakesIf o c → CallsIf o c vs
  calls_if None x c vs e n t = absurd t
  calls_if (Some f) x c vs e n t = let q : f ≡ x = cc in (t, ap (λ g. length g.params) q ∙ n)

  takes_caught : (o : Option FunDef) (f : FunDef) (ps : Pairs N) → o ≡ Some f → TakesIf o (caught_by f.uses ps)
  takes_caught o f ps e = subst (λ x. TakesIf x (caught_by f.uses ps)) (sym e) (all_used f.uses ps)

  val_at_ok : (vs : Vals N) (i : ℕ) → SoundVals vs → SoundOption (val_at vs i)
  val_at_ok no_vals i h = tt
  val_at_ok (val v vs) zero h = h.0
  val_at_ok (val v vs) (suc i) h = val_at_ok vs i h.1

  find_inside : (k : List ℕ) (ps : Pairs N) → pair_depths ps ≤ 100 → pair_sizes ps ≤ 262144 → PairsOver K sc ps → SoundOption (find k ps)
  find_inside k no_pairs d s r = tt
  find_inside k (pair l v ps) d s r =
      go (slice_cmp nat_cmp k l) (record { deep = omega arith; large = omega arith }, r.0) (find_inside k ps (omega arith) (omega arith) r.1)
    where
      go : (o : Ordering) → SoundOver K sc v → SoundOption (find k ps) → SoundOption (match_ordering o None (Some v) (find k ps))
      go Ordering.Less h i = tt
      go Ordering.Equal h i = h
      go Ordering.Greater h i = i

  or_else_ok : (o : Option (Val N)) (k : _) → SoundOption o → SoundAnswer (or_else o k)
  or_else_ok None k h = tt
  or_else_ok (Some v) k h = h

  join_refs : (vs ws : Vals N) → ValsOver K sc vs → ValsOver K sc ws → ValsOver K sc (join vs ws)
  join_refs no_vals ws h i = i
  join_refs (val v vs) ws h i = (h.0, join_refs vs ws h.1 i)

  add_refs : (vs : Vals N) (e : Val N) → ValsOver K sc vs → RefsOver K sc e → ValsOver K sc (add_val vs e)
  add_refs no_vals e h i = (i, tt)
  add_refs (val v vs) e h i = (h.0, add_refs vs e h.1 i)

  put_refs : (k : List ℕ) (v : Val N) (ps : Pairs N) → RefsOver K sc v → PairsOver K sc ps → PairsOver K sc (put k v ps)
  put_refs k v no_pairs h i = (h, tt)
  put_refs k v (pair l u ps) h i = go (slice_cmp nat_cmp k l) (put_refs k v ps h i.1)
    where
      go : (o : Ordering) → PairsOver K sc (put k v ps)
          → PairsOver K sc (match_ordering o (pair k v (pair l u ps)) (pair l v ps) (pair l u (put k v ps)))
      go Ordering.Less j = (h, i)
      go Ordering.Equal j = (h, i.1)
      go Ordering.Greater j = (i.0, j)

  abbrev SomeRefs : Option (Vals N) → Type 0
  SomeRefs None = Unit {0}
  SomeRefs (Some vs) = ValsOver K sc vs

  put_val_refs : (vs : Vals N) (i : ℕ) (e : Val N) → ValsOver K sc vs → RefsOver K sc e → SomeRefs (put_val vs i e)
  put_val_refs no_vals i e h r = tt
  put_val_refs (val v vs) zero e h r = (r, h.1)
  put_val_refs (val v vs) (suc i) e h r = go (put_val vs i e) (put_val_refs vs i e h.1 r)
    where
      go : (o : Option (Vals N)) → SomeRefs o → SomeRefs (option_map (val v) o)
      go None j = tt
      go (Some us) j = (h.0, j)

  limited_list_ok : (o : Option (Vals N)) → SomeRefs o → SoundAnswer (limited_list o)
  limited_list_ok None h = tt
  limited_list_ok (Some vs) h = limited_ok (list vs) h

  -- ---- operators

  plus_ok : (a b : Val N) → RefsOver K sc a → RefsOver K sc b → SoundAnswer (plus a b)
  plus_ok (num a) (num b) h i = simple_sound (checked (a +ℤ b)) (checked_simple N (a +ℤ b))
  plus_ok (num a) null h i = tt
  plus_ok (num a) (truth b) h i = tt
  plus_ok (num a) (text t) h i = tt
  plus_ok (num a) (list vs) h i = tt
  plus_ok (num a) (dict ps) h i = tt
  plus_ok (num a) (fun f c) h i = tt
  plus_ok (num a) (ref d) h i = tt
  plus_ok (text s) (text t) h i = limited_ok (text (s ++ t)) tt
  plus_ok (text s) null h i = tt
  plus_ok (text s) (truth b) h i = tt
  plus_ok (text s) (num z) h i = tt
  plus_ok (text s) (list vs) h i = tt
  plus_ok (text s) (dict ps) h i = tt
  plus_ok (text s) (fun f c) h i = tt
  plus_ok (text s) (ref d) h i = tt
  plus_ok (list vs) (list ws) h i = limited_ok (list (join vs ws)) (join_refs vs ws h i)
  plus_ok (list vs) null h i = tt
  plus_ok (list vs) (truth b) h i = tt
  plus_ok (list vs) (num z) h i = tt
  plus_ok (list vs) (text t) h i = tt
  plus_ok (list vs) (dict ps) h i = tt
  plus_ok (list vs) (fun f c) h i = tt
  plus_ok (list vs) (ref d) h i = tt
  plus_ok null b h i = tt
  plus_ok (truth c) b h i = tt
  plus_ok (dict ps) b h i = tt
  plus_ok (fun f c) b h i = tt
  plus_ok (ref d) b h i = tt

  remainder_ok : (a b : ℤ) → SoundAnswer (rest_num a b)
  remainder_ok a (pos zero) = tt
  remainder_ok a (pos (suc b)) = sound_num (int_rem a (pos (suc b)))
  remainder_ok a (negsuc b) = sound_num (int_rem a (negsuc b))

  num_rest : (a : ℤ) (v : Val N) → SoundAnswer (rest (num a) v)
  num_rest a (num b) = remainder_ok a b
  num_rest a null = tt
  num_rest a (truth b) = tt
  num_rest a (text t) = tt
  num_rest a (list vs) = tt
  num_rest a (dict ps) = tt
  num_rest a (fun f c) = tt
  num_rest a (ref d) = tt

  rest_ok : (v w : Val N) → SoundAnswer (rest v w)
  rest_ok (num a) w = num_rest a w
  rest_ok null w = tt
  rest_ok (truth b) w = tt
  rest_ok (text t) w = tt
  rest_ok (list vs) w = tt
  rest_ok (dict ps) w = tt
  rest_ok (fun f c) w = tt
  rest_ok (ref d) w = tt

  pub oper_sound : (o : Oper) (a b : Val N) → SoundOver K sc a → SoundOver K sc b → SoundAnswer (oper o a b)
  oper_sound Oper.plus a b h i = plus_ok a b h.1 i.1
  oper_sound Oper.minus a b h i = simple_sound (minus a b) (minus_simple N a b)
  oper_sound Oper.times a b h i = simple_sound (times a b) (times_simple N a b)
  oper_sound Oper.over a b h i = simple_sound (over a b) (over_simple N a b)
  oper_sound Oper.rest a b h i = rest_ok a b
  oper_sound (Oper.compare o) a b h i = simple_sound (compare o a b) (compare_simple N o a b)

  list_index : (vs : Vals N) (i : Val N) → SoundVals vs → SoundAnswer (index (list vs) i)
  list_index vs (num (pos i)) h = or_else_ok (val_at vs i) _ (val_at_ok vs i h)
  list_index vs (num (negsuc i)) h = tt
  list_index vs null h = tt
  list_index vs (truth b) h = tt
  list_index vs (text t) h = tt
  list_index vs (list us) h = tt
  list_index vs (dict ps) h = tt
  list_index vs (fun f c) h = tt
  list_index vs (ref d) h = tt

  dict_index : (ps : Pairs N) (i : Val N) → SoundOver K sc (dict ps) → SoundAnswer (index (dict ps) i)
  dict_index ps (text k) h =
      let d : 1 + pair_depths ps ≤ 100 = h.0.deep in
      let s : 1 + pair_sizes ps ≤ 262144 = h.0.large in
      or_else_ok (find k ps) _ (find_inside k ps (omega arith) (omega arith) h.1)
  dict_index ps null h = tt
  dict_index ps (truth b) h = tt
  dict_index ps (num z) h = tt
  dict_index ps (list us) h = tt
  dict_index ps (dict qs) h = tt
  dict_index ps (fun f c) h = tt
  dict_index ps (ref d) h = tt

  pub index_sound : (v i : Val N) → SoundOver K sc v → SoundAnswer (index v i)
  index_sound (list vs) i h = list_index vs i (list_inside vs h)
  index_sound (dict ps) i h = dict_index ps i h
  index_sound null i h = tt
  index_sound (truth b) i h = tt
  index_sound (num z) i h = tt
  index_sound (text t) i h = tt
  index_sound (fun f c) i h = tt
  index_sound (ref d) i h = tt

  list_set : (vs : Vals N) (i e : Val N) → ValsOver K sc vs → RefsOver K sc e → SoundAnswer (set_at (list vs) i e)
  list_set vs (num (pos i)) e h r = limited_list_ok (put_val vs i e) (put_val_refs vs i e h r)
  list_set vs (num (negsuc i)) e h r = tt
  list_set vs null e h r = tt
  list_set vs (truth b) e h r = tt
  list_set vs (text t) e h r = tt
  list_set vs (list us) e h r = tt
  list_set vs (dict ps) e h r = tt
  list_set vs (fun f c) e h r = tt
  list_set vs (ref d) e h r = tt

  dict_set : (ps : Pairs N) (i e : Val N) → PairsOver K sc ps → RefsOver K sc e → SoundAnswer (set_at (dict ps) i e)
  dict_set ps (text k) e h r = limited_ok (dict (put k e ps)) (put_refs k e ps r h)
  dict_set ps null e h r = tt
  dict_set ps (truth b) e h r = tt
  dict_set ps (num z) e h r = tt
  dict_set ps (list us) e h r = tt
  dict_set ps (dict qs) e h r = tt
  dict_set ps (fun f c) e h r = tt
  dict_set ps (ref d) e h r = tt

  pub set_at_sound : (v i e : Val N) → SoundOver K sc v → SoundOver K sc e → SoundAnswer (set_at v i e)
  set_at_sound (list vs) i e h r = list_set vs i e h.1 r.1
  set_at_sound (dict ps) i e h r = dict_set ps i e h.1 r.1
  set_at_sound null i e h r = tt
  set_at_sound (truth b) i e h r = tt
  set_at_sound (num z) i e h r = tt
  set_at_sound (text t) i e h r = tt
  set_at_sound (fun f c) i e h r = tt
  set_at_sound (ref d) i e h r = tt

  pub grown_sound : (v e : Val N) → SoundOver K sc v → SoundOver K sc e → SoundAnswer (grown v e)
  grown_sound (list vs) e h r = limited_ok (list (add_val vs e)) (add_refs vs e h.1 r.1)
  grown_sound null e h r = tt
  grown_sound (truth b) e h r = tt
  grown_sound (num z) e h r = plus_ok (num z) e h.1 r.1
  grown_sound (text t) e h r = plus_ok (text t) e h.1 r.1
  grown_sound (dict ps) e h r = tt
  grown_sound (fun f c) e h r = tt
  grown_sound (ref d) e h r = tt

  len_sound : (v : Val N) → SoundAnswer (len v)
  len_sound (text t) = sound_num _
  len_sound (list vs) = sound_num _
  len_sound (dict ps) = sound_num _
  len_sound null = tt
  len_sound (truth b) = tt
  len_sound (num z) = tt
  len_sound (fun f c) = tt
  len_sound (ref d) = tt

  keys_refs : (ps : Pairs N) → ValsOver K sc (all_keys ps)
  keys_refs no_pairs = tt
  keys_refs (pair k v ps) = (tt, keys_refs ps)

  keys_sound : (v : Val N) → SoundAnswer (keys v)
  keys_sound (dict ps) = limited_ok (list (all_keys ps)) (keys_refs ps)
  keys_sound null = tt
  keys_sound (truth b) = tt
  keys_sound (num z) = tt
  keys_sound (text t) = tt
  keys_sound (list vs) = tt
  keys_sound (fun f c) = tt
  keys_sound (ref d) = tt

  sizes_numbers : (n : ℕ) (a : ℤ) → sizes (numbers {N = N} n a) ≡ n
  sizes_numbers zero a = refl
  sizes_numbers (suc n) a = omega (arith, sizes_numbers n (a +ℤ pos 1))

  depths_numbers : (n : ℕ) (a : ℤ) → depths (numbers {N = N} n a) ≤ 1
  depths_numbers zero a = omega arith
  depths_numbers (suc n) a = omega (arith, depths_numbers n (a +ℤ pos 1))

  numbers_refs : (n : ℕ) (a : ℤ) → ValsOver K sc (numbers {N = N} n a)
  numbers_refs zero a = tt
  numbers_refs (suc n) a = (tt, numbers_refs n (a +ℤ pos 1))

  range_if_ok : (n : ℕ) (a : ℤ) → SoundAnswer (range_if {N = N} (nat_lt 262143 n) n a)
  range_if_ok n a = go (nat_lt 262143 n) refl
    where
      go : (b : Bool) → nat_lt 262143 n ≡ b → SoundAnswer (range_if {N = N} b n a)
      go true e = tt
      go false e =
          let le : n ≤ 262143 = ltb-false 262143 n e in
          (record { deep = omega (arith, depths_numbers n a); large = omega (arith, sizes_numbers n a) }, numbers_refs n a)

  num_range : (a : ℤ) (v : Val N) → SoundAnswer (range (num a) v)
  num_range a (num b) = range_if_ok (span (b -ℤ a)) a
  num_range a null = tt
  num_range a (truth b) = tt
  num_range a (text t) = tt
  num_range a (list vs) = tt
  num_range a (dict ps) = tt
  num_range a (fun f c) = tt
  num_range a (ref d) = tt

  range_sound : (a b : Val N) → SoundAnswer (range a b)
  range_sound (num a) w = num_range a w
  range_sound null w = tt
  range_sound (truth b) w = tt
  range_sound (text t) w = tt
  range_sound (list vs) w = tt
  range_sound (dict ps) w = tt
  range_sound (fun f c) w = tt
  range_sound (ref d) w = tt

  -- ---- forms of parts

  parts_refs : (vs : List (Val N)) → Each (SoundOver K sc) vs → ValsOver K sc (vals_of vs)
  parts_refs [] h = tt
  parts_refs (v ∷ vs) h = (h.0.1, parts_refs vs h.1)

  list_sound : (vs : List (Val N)) → Each (SoundOver K sc) vs → SoundAnswer (limited (list (vals_of vs)))
  list_sound vs h = limited_ok (list (vals_of vs)) (parts_refs vs h)

  with_key_ok : (k v : Val N) (ps : Pairs N) (go : Pairs N → Answer N) → PairsOver K sc ps → RefsOver K sc v
      → ((qs : Pairs N) → PairsOver K sc qs → SoundAnswer (go qs)) → SoundAnswer (with_key k v ps go)
  with_key_ok (text k) v ps go h r g = g (put k v ps) (put_refs k v ps r h)
  with_key_ok null v ps go h r g = tt
  with_key_ok (truth b) v ps go h r g = tt
  with_key_ok (num z) v ps go h r g = tt
  with_key_ok (list vs) v ps go h r g = tt
  with_key_ok (dict qs) v ps go h r g = tt
  with_key_ok (fun f c) v ps go h r g = tt
  with_key_ok (ref d) v ps go h r g = tt

  dict_sound : (vs : List (Val N)) (ps : Pairs N) → Each (SoundOver K sc) vs → PairsOver K sc ps → SoundAnswer (dict_from vs ps)
  dict_sound [] ps h r = limited_ok (dict ps) r
  dict_sound (k ∷ []) ps h r = tt
  dict_sound (k ∷ v ∷ vs) ps h r = with_key_ok k v ps _ r h.1.0.1 (λ qs i. dict_sound vs qs h.1.1 i)

  lit_sound : (l : Lit) → SoundAnswer (limited (lit_val l))
  lit_sound Lit.null = limited_ok null tt
  lit_sound (Lit.truth b) = limited_ok (truth b) tt
  lit_sound (Lit.num z) = limited_ok (num z) tt
  lit_sound (Lit.text t) = limited_ok (text t) tt

  -- ---- references

  sizes_refs : (ds : List (Desc N)) → sizes (refs_to ds) ≡ 32 * length ds
  sizes_refs [] = refl
  sizes_refs (d ∷ ds) = omega (arith, sizes_refs ds)

  depths_refs : (ds : List (Desc N)) → depths (refs_to ds) ≤ 1
  depths_refs [] = omega arith
  depths_refs (d ∷ ds) = omega (arith, depths_refs ds)

  refs_refs : (ds : List (Desc N)) → Each (λ d. (SoundOver K sc) (ref d)) ds → ValsOver K sc (refs_to ds)
  refs_refs [] h = tt
  refs_refs (d ∷ ds) h = (h.0.1, refs_refs ds h.1)

  refs_sound : (ds : List (Desc N)) → length ds ≤ 64 → Each (λ d. (SoundOver K sc) (ref d)) ds → SoundOver K sc (list (refs_to ds))
  refs_sound ds le h =
      (record { deep = omega (arith, depths_refs ds); large = omega (arith, sizes_refs ds) }, refs_refs ds h)

  ref_sound : (d : Desc N) → DescOver K sc d → SoundOver K sc (ref d)
  ref_sound d h = (record { deep = omega arith; large = omega arith }, h)

  -- the variables are sound
  abbrev pub Vars : World N → Pairs N → Type 0
  Vars w ps = PairsOk w (SoundOver K sc) (DescOver K sc) ps

  -- what the operators give is sound, where what is read and what a reference holds is
  pub sound_closed : (w : World N) → ((f : List ℕ) → find_fun f w.script.funs ≡ find_fun f sc.funs)
      → ((k : List ℕ) → is_one_of k w.script.keys ≡ is_one_of k sc.keys) → ((b : List ℕ) → SoundAnswer (w.reads b))
      → ((d : Desc N) → DescOver K sc d → DescOver K sc (w.make d))
      → Closed w (SoundOver K sc) (DescOver K sc) (Vars w) any_made any_lit any_name
  sound_closed w same keys reads make =
      record {
        null_ok = sound_null;
        truth_ok = sound_truth;
        taken_ok = λ t vs h le. sound_num (pos t);
        lit_ok = λ l i. lit_sound l;
        put_ok = λ x v ps n h l. put_each w (SoundOver K sc) (DescOver K sc) x v ps h l;
        find_ok = λ x ps l. find_each w (SoundOver K sc) (DescOver K sc) x ps l;
        fun_ok = λ x n i. limited_ok (fun x no_pairs) (takes_none (find_fun x sc.funs) (subst IsSome (same x) i), tt);
        closed_ok = λ f x ps n e l. limited_ok (fun x (caught_by f.uses ps))
            (takes_caught (find_fun x sc.funs) f ps (sym (same x) ∙ e), caught_refs f.uses ps l);
        caught_ok = λ f ps h. dict_inside ps (caught_kept f ps h.0, h.1.1);
        list_ok = list_sound;
        dict_ok = λ vs h. dict_sound vs no_pairs h tt;
        oper_ok = oper_sound;
        index_ok = index_sound;
        set_ok = λ v i e h g r. set_at_sound v i e h r;
        grown_ok = grown_sound;
        negated_ok = λ v. simple_sound (negated v) (negated_simple N v);
        opposite_ok = λ v. simple_sound (opposite v) (opposite_simple N v);
        len_ok = λ v h. len_sound v;
        keys_ok = λ v h. keys_sound v;
        has_ok = λ v k. simple_sound (has v k) (has_simple N v k);
        range_ok = λ a b h i. range_sound a b;
        inside_ok = list_inside;
        reads_ok = reads;
        ref_ok = λ d h m. ref_sound (w.make d) (make d h);
        refs_ok = refs_sound;
        call_ok = λ f ps vs x e n z h. (h.0, z.0, h.1, z.1.1, inr (calls_if (find_fun f sc.funs) x ps vs (sym (same f) ∙ e) n z.1.0));
        out_ok = λ x a n i t h lt le. (t.0, h.0, h.1, lt, le);
        input_ok = λ k t e. (t.0, sym (keys k) ∙ e);
      }

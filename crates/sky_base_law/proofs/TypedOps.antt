-- Each operator gives typed values from typed values that keep the limits.
use Rattle.std.proofs.Common.{◌≡◌, ℕ, ℤ, zero, suc, ◌+◌, ◌<◌, ◌≤◌, Bool, true, false, List, [], ◌∷◌, ◌++◌, length, FitsSigned, Option, Some, None, Ok}
use Rattle.std.proofs.Common.{Err, IsUtf8, nat_lt, pos, negsuc, ◌+ℤ◌, ◌-ℤ◌, ◌≤ℤ◌, int_rem, refl, arith, subst, sym}
use Rattle.std.proofs.lemmas.Int.{ints}
use Rattle.std.proofs.lemmas.Str.{IsUtf8-append}
use Rattle.std.specs.Int.{w64}
use Rattle.std.specs.Option.{option_map}
use Rattle.std.specs.Ordering.{nat_cmp, match_ordering}
use Rattle.std.specs.Cmp.Lexicographic.{slice_cmp}
use Rattle.std.specs.declared.cmp.Ordering.{Ordering}
use lib.Signed.{mag_rem}
use Rattle.sky_base.specs.Val.{Val, Vals, Pairs, Desc, null, truth, num, text, list, dict, fun, ref, no_vals, val, no_pairs, pair, add_val, count}
use Rattle.sky_base.specs.Val.{pair_count, vals_of, refs_to, size, depth, sizes, pair_sizes, Rising}
use Rattle.sky_base.specs.Op.{Answer, checked, unless, limited, join, plus, minus, times, over, rest, rest_num, val_at, find, put, or_else, index}
use Rattle.sky_base.specs.Op.{put_val, limited_list, set_at, compare, len, all_keys, keys, numbers, range_if, range, span, grown, with_key, dict_from}
use Rattle.sky_base.specs.Tree.{Lit, Oper}
use Rattle.sky_base.specs.Eval.{is_one_of, caught_if, caught_by, lit_val, oper}
use Rattle.sky_base.specs.Kept.{Kept}
use Rattle.sky_base_law.specs.Tasks.{Each}
use Rattle.sky_base_law.specs.Typed.{TypedOver, ValsTyped, EachTyped, TypedLit}
use Rattle.sky_base_law.proofs.RisingLaw.{rising_put, rising_caught}
use Rattle.sky_base_law.proofs.SimpleOps.{Atom, Simple, checked_simple, minus_simple, times_simple, over_simple, compare_simple}

-- a number that counts what keeps the limits has 64 bits
few_signed : (n : ℕ) → n ≤ 262144 → FitsSigned w64 (pos n)
few_signed n le = let lt : n < 9223372036854775808 = omega (arith, le) in record { sfits = lt }

-- the number after one that is below another
next_fits : (a b : ℤ) → FitsSigned w64 a → FitsSigned w64 b → (a +ℤ pos 1) ≤ℤ b → FitsSigned w64 (a +ℤ pos 1)
next_fits (pos n) (pos m) f g le = let up : n + 1 ≤ m = omega (arith, ints, le) in record { sfits = omega (arith, up, g.sfits) }
next_fits (pos n) (negsuc m) f g le = absurd (omega (arith, ints, le))
next_fits (negsuc zero) b f g le = record { sfits = omega arith }
next_fits (negsuc (suc n)) b f g le =
    let is : negsuc n ≡ negsuc (suc n) +ℤ pos 1 = omega (arith, ints) in
    let fits : FitsSigned w64 (negsuc n) = record { sfits = omega (arith, f.sfits) } in
    subst (FitsSigned w64) is fits

module _ {N : Type 0} where
  size_some : (v : Val N) → 1 ≤ size v
  size_some null = omega arith
  size_some (truth b) = omega arith
  size_some (num z) = omega arith
  size_some (text t) = omega arith
  size_some (list vs) = omega arith
  size_some (dict ps) = omega arith
  size_some (fun f c) = omega arith
  size_some (ref d) = omega arith

  pub count_small : (vs : Vals N) → count vs ≤ sizes vs
  count_small no_vals = omega arith
  count_small (val v vs) = omega (arith, size_some v, count_small vs)

  pub pairs_small : (ps : Pairs N) → pair_count ps ≤ pair_sizes ps
  pairs_small no_pairs = omega arith
  pairs_small (pair k v ps) = omega (arith, size_some v, pairs_small ps)

module _ (N : Type 0) (K : N → Type 0) where
  abbrev pub TypedAnswer : Answer N → Type 0
  TypedAnswer (Ok v) = TypedOver K v
  TypedAnswer (Err k) = Unit {0}

  abbrev pub TypedOption : Option (Val N) → Type 0
  TypedOption None = Unit {0}
  TypedOption (Some v) = TypedOver K v

  -- pairs with typed keys and values, whose keys rise
  abbrev pub PairsTyped : Pairs N → Type 0
  PairsTyped ps = EachTyped K ps × Rising ps

  atom_typed : (v : Val N) → Atom N v → TypedOver K v
  atom_typed null h = tt
  atom_typed (truth b) h = tt
  atom_typed (num z) h = h
  atom_typed (text t) h = absurd h
  atom_typed (list vs) h = absurd h
  atom_typed (dict ps) h = absurd h
  atom_typed (fun f c) h = absurd h
  atom_typed (ref d) h = absurd h

  pub simple_typed : (o : Answer N) → Simple N o → TypedAnswer o
  simple_typed (Ok v) h = atom_typed v h
  simple_typed (Err k) h = tt

  pub limited_typed : (v : Val N) → TypedOver K v → TypedAnswer (limited v)
  limited_typed v h = go (nat_lt 100 (depth v)) (nat_lt 262144 (size v))
    where
      go : (a b : Bool) → TypedAnswer (unless a b v)
      go true b = tt
      go false true = tt
      go false false = h

  -- ---- parts of values

  each_put : (k : List ℕ) (v : Val N) (ps : Pairs N) → IsUtf8 k → TypedOver K v → EachTyped K ps → EachTyped K (put k v ps)
  each_put k v no_pairs u h i = (u, h, tt)
  each_put k v (pair l w ps) u h i = go (slice_cmp nat_cmp k l) (each_put k v ps u h i.2)
    where
      go : (o : Ordering) → EachTyped K (put k v ps) → EachTyped K (match_ordering o (pair k v (pair l w ps)) (pair l v ps) (pair l w (put k v ps)))
      go Ordering.Less j = (u, h, i)
      go Ordering.Equal j = (i.0, h, i.2)
      go Ordering.Greater j = (i.0, i.1, j)

  pub put_typed : (k : List ℕ) (v : Val N) (ps : Pairs N) → IsUtf8 k → TypedOver K v → PairsTyped ps → PairsTyped (put k v ps)
  put_typed k v ps u h i = (each_put k v ps u h i.0, rising_put k v ps i.1)

  pub find_typed : (k : List ℕ) (ps : Pairs N) → EachTyped K ps → TypedOption (find k ps)
  find_typed k no_pairs h = tt
  find_typed k (pair l v ps) h = go (slice_cmp nat_cmp k l) (find_typed k ps h.2)
    where
      go : (o : Ordering) → TypedOption (find k ps) → TypedOption (match_ordering o None (Some v) (find k ps))
      go Ordering.Less i = tt
      go Ordering.Equal i = h.1
      go Ordering.Greater i = i

  each_caught : (us : List (List ℕ)) (ps : Pairs N) → EachTyped K ps → EachTyped K (caught_by us ps)
  each_caught us no_pairs h = tt
  each_caught us (pair k v ps) h = go (is_one_of k us) (each_caught us ps h.2)
    where
      go : (b : Bool) → EachTyped K (caught_by us ps) → EachTyped K (caught_if b k v (caught_by us ps))
      go true i = (h.0, h.1, i)
      go false i = i

  pub caught_typed : (us : List (List ℕ)) (ps : Pairs N) → PairsTyped ps → PairsTyped (caught_by us ps)
  caught_typed us ps h = (each_caught us ps h.0, rising_caught us ps h.1)

  or_else_typed : (o : Option (Val N)) (k : _) → TypedOption o → TypedAnswer (or_else o k)
  or_else_typed None k h = tt
  or_else_typed (Some v) k h = h

  val_at_typed : (vs : Vals N) (i : ℕ) → ValsTyped K vs → TypedOption (val_at vs i)
  val_at_typed no_vals i h = tt
  val_at_typed (val v vs) zero h = h.0
  val_at_typed (val v vs) (suc i) h = val_at_typed vs i h.1

  join_typed : (vs ws : Vals N) → ValsTyped K vs → ValsTyped K ws → ValsTyped K (join vs ws)
  join_typed no_vals ws h i = i
  join_typed (val v vs) ws h i = (h.0, join_typed vs ws h.1 i)

  add_typed : (vs : Vals N) (e : Val N) → ValsTyped K vs → TypedOver K e → ValsTyped K (add_val vs e)
  add_typed no_vals e h i = (i, tt)
  add_typed (val v vs) e h i = (h.0, add_typed vs e h.1 i)

  abbrev SomeTyped : Option (Vals N) → Type 0
  SomeTyped None = Unit {0}
  SomeTyped (Some vs) = ValsTyped K vs

  put_val_typed : (vs : Vals N) (i : ℕ) (e : Val N) → ValsTyped K vs → TypedOver K e → SomeTyped (put_val vs i e)
  put_val_typed no_vals i e h r = tt
  put_val_typed (val v vs) zero e h r = (r, h.1)
  put_val_typed (val v vs) (suc i) e h r = go (put_val vs i e) (put_val_typed vs i e h.1 r)
    where
      go : (o : Option (Vals N)) → SomeTyped o → SomeTyped (option_map (val v) o)
      go None j = tt
      go (Some us) j = (h.0, j)

  limited_list_typed : (o : Option (Vals N)) → SomeTyped o → TypedAnswer (limited_list o)
  limited_list_typed None h = tt
  limited_list_typed (Some vs) h = limited_typed (list vs) h

  -- ---- operators

  num_plus : (a : ℤ) (v : Val N) → TypedAnswer (plus (num a) v)
  num_plus a (num b) = simple_typed (checked (a +ℤ b)) (checked_simple N (a +ℤ b))
  num_plus a null = tt
  num_plus a (truth b) = tt
  num_plus a (text t) = tt
  num_plus a (list vs) = tt
  num_plus a (dict ps) = tt
  num_plus a (fun f c) = tt
  num_plus a (ref d) = tt

  text_plus : (s : List ℕ) (v : Val N) → IsUtf8 s → TypedOver K v → TypedAnswer (plus (text s) v)
  text_plus s (text t) h i = limited_typed (text (s ++ t)) (IsUtf8-append s t h i)
  text_plus s null h i = tt
  text_plus s (truth b) h i = tt
  text_plus s (num z) h i = tt
  text_plus s (list vs) h i = tt
  text_plus s (dict ps) h i = tt
  text_plus s (fun f c) h i = tt
  text_plus s (ref d) h i = tt

  list_plus : (vs : Vals N) (v : Val N) → ValsTyped K vs → TypedOver K v → TypedAnswer (plus (list vs) v)
  list_plus vs (list ws) h i = limited_typed (list (join vs ws)) (join_typed vs ws h i)
  list_plus vs null h i = tt
  list_plus vs (truth b) h i = tt
  list_plus vs (num z) h i = tt
  list_plus vs (text t) h i = tt
  list_plus vs (dict ps) h i = tt
  list_plus vs (fun f c) h i = tt
  list_plus vs (ref d) h i = tt

  plus_typed : (v w : Val N) → TypedOver K v → TypedOver K w → TypedAnswer (plus v w)
  plus_typed (num a) w h i = num_plus a w
  plus_typed (text s) w h i = text_plus s w h i
  plus_typed (list vs) w h i = list_plus vs w h i
  plus_typed null w h i = tt
  plus_typed (truth b) w h i = tt
  plus_typed (dict ps) w h i = tt
  plus_typed (fun f c) w h i = tt
  plus_typed (ref d) w h i = tt

  -- what is left of a number by another is no larger than it
  rem_fits : (a b : ℤ) → FitsSigned w64 a → FitsSigned w64 (int_rem a b)
  rem_fits a b h = record { sfits = omega (arith, mag_rem a b, h.sfits) }

  remainder_typed : (a b : ℤ) → FitsSigned w64 a → TypedAnswer (rest_num a b)
  remainder_typed a (pos zero) h = tt
  remainder_typed a (pos (suc b)) h = rem_fits a (pos (suc b)) h
  remainder_typed a (negsuc b) h = rem_fits a (negsuc b) h

  num_rest : (a : ℤ) (v : Val N) → FitsSigned w64 a → TypedAnswer (rest (num a) v)
  num_rest a (num b) h = remainder_typed a b h
  num_rest a null h = tt
  num_rest a (truth b) h = tt
  num_rest a (text t) h = tt
  num_rest a (list vs) h = tt
  num_rest a (dict ps) h = tt
  num_rest a (fun f c) h = tt
  num_rest a (ref d) h = tt

  rest_typed : (v w : Val N) → TypedOver K v → TypedAnswer (rest v w)
  rest_typed (num a) w h = num_rest a w h
  rest_typed null w h = tt
  rest_typed (truth b) w h = tt
  rest_typed (text t) w h = tt
  rest_typed (list vs) w h = tt
  rest_typed (dict ps) w h = tt
  rest_typed (fun f c) w h = tt
  rest_typed (ref d) w h = tt

  pub oper_typed : (o : Oper) (a b : Val N) → TypedOver K a → TypedOver K b → TypedAnswer (oper o a b)
  oper_typed Oper.plus a b h i = plus_typed a b h i
  oper_typed Oper.minus a b h i = simple_typed (minus a b) (minus_simple N a b)
  oper_typed Oper.times a b h i = simple_typed (times a b) (times_simple N a b)
  oper_typed Oper.over a b h i = simple_typed (over a b) (over_simple N a b)
  oper_typed Oper.rest a b h i = rest_typed a b h
  oper_typed (Oper.compare o) a b h i = simple_typed (compare o a b) (compare_simple N o a b)

  list_index : (vs : Vals N) (i : Val N) → ValsTyped K vs → TypedAnswer (index (list vs) i)
  list_index vs (num (pos i)) h = or_else_typed (val_at vs i) _ (val_at_typed vs i h)
  list_index vs (num (negsuc i)) h = tt
  list_index vs null h = tt
  list_index vs (truth b) h = tt
  list_index vs (text t) h = tt
  list_index vs (list us) h = tt
  list_index vs (dict ps) h = tt
  list_index vs (fun f c) h = tt
  list_index vs (ref d) h = tt

  dict_index : (ps : Pairs N) (i : Val N) → EachTyped K ps → TypedAnswer (index (dict ps) i)
  dict_index ps (text k) h = or_else_typed (find k ps) _ (find_typed k ps h)
  dict_index ps null h = tt
  dict_index ps (truth b) h = tt
  dict_index ps (num z) h = tt
  dict_index ps (list us) h = tt
  dict_index ps (dict qs) h = tt
  dict_index ps (fun f c) h = tt
  dict_index ps (ref d) h = tt

  pub index_typed : (v i : Val N) → TypedOver K v → TypedAnswer (index v i)
  index_typed (list vs) i h = list_index vs i h
  index_typed (dict ps) i h = dict_index ps i h.0
  index_typed null i h = tt
  index_typed (truth b) i h = tt
  index_typed (num z) i h = tt
  index_typed (text t) i h = tt
  index_typed (fun f c) i h = tt
  index_typed (ref d) i h = tt

  list_set : (vs : Vals N) (i e : Val N) → ValsTyped K vs → TypedOver K e → TypedAnswer (set_at (list vs) i e)
  list_set vs (num (pos i)) e h r = limited_list_typed (put_val vs i e) (put_val_typed vs i e h r)
  list_set vs (num (negsuc i)) e h r = tt
  list_set vs null e h r = tt
  list_set vs (truth b) e h r = tt
  list_set vs (text t) e h r = tt
  list_set vs (list us) e h r = tt
  list_set vs (dict ps) e h r = tt
  list_set vs (fun f c) e h r = tt
  list_set vs (ref d) e h r = tt

  dict_set : (ps : Pairs N) (i e : Val N) → PairsTyped ps → TypedOver K i → TypedOver K e → TypedAnswer (set_at (dict ps) i e)
  dict_set ps (text k) e h u r = limited_typed (dict (put k e ps)) (put_typed k e ps u r h)
  dict_set ps null e h u r = tt
  dict_set ps (truth b) e h u r = tt
  dict_set ps (num z) e h u r = tt
  dict_set ps (list us) e h u r = tt
  dict_set ps (dict qs) e h u r = tt
  dict_set ps (fun f c) e h u r = tt
  dict_set ps (ref d) e h u r = tt

  pub set_at_typed : (v i e : Val N) → TypedOver K v → TypedOver K i → TypedOver K e → TypedAnswer (set_at v i e)
  set_at_typed (list vs) i e h u r = list_set vs i e h r
  set_at_typed (dict ps) i e h u r = dict_set ps i e h u r
  set_at_typed null i e h u r = tt
  set_at_typed (truth b) i e h u r = tt
  set_at_typed (num z) i e h u r = tt
  set_at_typed (text t) i e h u r = tt
  set_at_typed (fun f c) i e h u r = tt
  set_at_typed (ref d) i e h u r = tt

  pub grown_typed : (v e : Val N) → TypedOver K v → TypedOver K e → TypedAnswer (grown v e)
  grown_typed (list vs) e h r = limited_typed (list (add_val vs e)) (add_typed vs e h r)
  grown_typed null e h r = tt
  grown_typed (truth b) e h r = tt
  grown_typed (num z) e h r = num_plus z e
  grown_typed (text t) e h r = text_plus t e h r
  grown_typed (dict ps) e h r = tt
  grown_typed (fun f c) e h r = tt
  grown_typed (ref d) e h r = tt

  -- ---- how many there are

  -- a list that keeps the limits has few members
  pub taken_typed : (t : ℕ) (vs : Vals N) → Kept (list vs) → t ≤ count vs → FitsSigned w64 (pos t)
  taken_typed t vs kept le =
      let s : 1 + sizes vs ≤ 262144 = kept.large in
      few_signed t (omega (arith, count_small vs, le))

  pub len_typed : (v : Val N) → Kept v → TypedAnswer (len v)
  len_typed (text t) kept =
      let s : 1 + length t ≤ 262144 = kept.large in
      few_signed (length t) (omega arith)
  len_typed (list vs) kept =
      let s : 1 + sizes vs ≤ 262144 = kept.large in
      few_signed (count vs) (omega (arith, count_small vs))
  len_typed (dict ps) kept =
      let s : 1 + pair_sizes ps ≤ 262144 = kept.large in
      few_signed (pair_count ps) (omega (arith, pairs_small ps))
  len_typed null kept = tt
  len_typed (truth b) kept = tt
  len_typed (num z) kept = tt
  len_typed (fun f c) kept = tt
  len_typed (ref d) kept = tt

  all_keys_typed : (ps : Pairs N) → EachTyped K ps → ValsTyped K (all_keys ps)
  all_keys_typed no_pairs h = tt
  all_keys_typed (pair k v ps) h = (h.0, all_keys_typed ps h.2)

  pub keys_typed : (v : Val N) → TypedOver K v → TypedAnswer (keys v)
  keys_typed (dict ps) h = limited_typed (list (all_keys ps)) (all_keys_typed ps h.0)
  keys_typed null h = tt
  keys_typed (truth b) h = tt
  keys_typed (num z) h = tt
  keys_typed (text t) h = tt
  keys_typed (list vs) h = tt
  keys_typed (fun f c) h = tt
  keys_typed (ref d) h = tt

  -- ---- numbers from one to another

  numbers_typed : (n : ℕ) (a b : ℤ) → FitsSigned w64 a → FitsSigned w64 b → (a +ℤ pos n) ≤ℤ b → ValsTyped K (numbers {N = N} n a)
  numbers_typed zero a b f g le = tt
  numbers_typed (suc n) a b f g le =
      (f, numbers_typed n (a +ℤ pos 1) b (next_fits a b f g (omega (arith, ints, le))) g (omega (arith, ints, le)))

  span_below : (a b : ℤ) (n : ℕ) → b -ℤ a ≡ pos n → (a +ℤ pos n) ≤ℤ b
  span_below a b n e = omega (arith, ints, e)

  range_if_typed : (m : Bool) (n : ℕ) (a b : ℤ) → FitsSigned w64 a → FitsSigned w64 b → n ≡ span (b -ℤ a) → TypedAnswer (range_if {N = N} m n a)
  range_if_typed true n a b f g e = tt
  range_if_typed false n a b f g e = subst (λ k. ValsTyped K (numbers {N = N} k a)) (sym e) (go (b -ℤ a) refl)
    where
      go : (z : ℤ) → b -ℤ a ≡ z → ValsTyped K (numbers {N = N} (span z) a)
      go (pos k) s = numbers_typed k a b f g (span_below a b k s)
      go (negsuc k) s = tt

  num_range : (a : ℤ) (v : Val N) → FitsSigned w64 a → TypedOver K v → TypedAnswer (range (num a) v)
  num_range a (num b) f g = range_if_typed (nat_lt 262143 (span (b -ℤ a))) (span (b -ℤ a)) a b f g refl
  num_range a null f g = tt
  num_range a (truth b) f g = tt
  num_range a (text t) f g = tt
  num_range a (list vs) f g = tt
  num_range a (dict ps) f g = tt
  num_range a (fun x c) f g = tt
  num_range a (ref d) f g = tt

  pub range_typed : (a b : Val N) → TypedOver K a → TypedOver K b → TypedAnswer (range a b)
  range_typed (num a) w h i = num_range a w h i
  range_typed null w h i = tt
  range_typed (truth b) w h i = tt
  range_typed (text t) w h i = tt
  range_typed (list vs) w h i = tt
  range_typed (dict ps) w h i = tt
  range_typed (fun f c) w h i = tt
  range_typed (ref d) w h i = tt

  -- ---- forms of parts

  vals_typed : (vs : List (Val N)) → Each (TypedOver K) vs → ValsTyped K (vals_of vs)
  vals_typed [] h = tt
  vals_typed (v ∷ vs) h = (h.0, vals_typed vs h.1)

  pub list_typed : (vs : List (Val N)) → Each (TypedOver K) vs → TypedAnswer (limited (list (vals_of vs)))
  list_typed vs h = limited_typed (list (vals_of vs)) (vals_typed vs h)

  with_key_typed : (k v : Val N) (ps : Pairs N) (go : Pairs N → Answer N) → TypedOver K k → TypedOver K v → PairsTyped ps
      → ((qs : Pairs N) → PairsTyped qs → TypedAnswer (go qs)) → TypedAnswer (with_key k v ps go)
  with_key_typed (text k) v ps go u r h g = g (put k v ps) (put_typed k v ps u r h)
  with_key_typed null v ps go u r h g = tt
  with_key_typed (truth b) v ps go u r h g = tt
  with_key_typed (num z) v ps go u r h g = tt
  with_key_typed (list vs) v ps go u r h g = tt
  with_key_typed (dict qs) v ps go u r h g = tt
  with_key_typed (fun f c) v ps go u r h g = tt
  with_key_typed (ref d) v ps go u r h g = tt

  pub dict_typed : (vs : List (Val N)) (ps : Pairs N) → Each (TypedOver K) vs → PairsTyped ps → TypedAnswer (dict_from vs ps)
  dict_typed [] ps h r = limited_typed (dict ps) r
  dict_typed (k ∷ []) ps h r = tt
  dict_typed (k ∷ v ∷ vs) ps h r = with_key_typed k v ps _ h.0 h.1.0 r (λ qs i. dict_typed vs qs h.1.1 i)

  pub lit_typed : (l : Lit) → TypedLit l → TypedAnswer (limited (lit_val l))
  lit_typed Lit.null h = limited_typed null tt
  lit_typed (Lit.truth b) h = limited_typed (truth b) tt
  lit_typed (Lit.num z) h = limited_typed (num z) h
  lit_typed (Lit.text t) h = limited_typed (text t) h

  pub refs_typed : (ds : List (Desc N)) → Each (λ d. TypedOver K (ref d)) ds → ValsTyped K (refs_to ds)
  refs_typed [] h = tt
  refs_typed (d ∷ ds) h = (h.0, refs_typed ds h.1)

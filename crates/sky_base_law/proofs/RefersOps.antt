-- What an operator gives refers to what it was given refers to.
use Rattle.std.proofs.Common.{ℕ, ℤ, zero, suc, Bool, true, false, List, [], ◌∷◌, ◌++◌, Option, Some, None, Ok, Err, nat_lt, pos, negsuc, ◌+ℤ◌, ◌-ℤ◌}
use Rattle.std.specs.Option.{option_map}
use Rattle.std.specs.Ordering.{nat_cmp, match_ordering}
use Rattle.std.specs.Cmp.Lexicographic.{slice_cmp}
use Rattle.std.specs.declared.cmp.Ordering.{Ordering}
use Rattle.sky_base.specs.Val.{Val, Vals, Pairs, Desc, null, truth, num, text, list, dict, fun, ref, no_vals, val, no_pairs, pair, add_val, vals_of}
use Rattle.sky_base.specs.Val.{refs_to, size, depth}
use Rattle.sky_base.specs.Op.{Answer, checked, unless, limited, join, plus, minus, times, over, rest, rest_num, val_at, find, put, or_else, index}
use Rattle.sky_base.specs.Op.{put_val, limited_list, set_at, compare, len, all_keys, keys, numbers, range_if, range, span, grown, with_key, dict_from}
use Rattle.sky_base.specs.Tree.{Lit, Oper}
use Rattle.sky_base.specs.Eval.{is_one_of, caught_if, caught_by, lit_val, oper}
use Rattle.sky_base_law.specs.Tasks.{Each}
use Rattle.sky_base_law.specs.Refers.{Refers, ValsRefer, PairsRefer}
use Rattle.sky_base_law.proofs.SimpleOps.{Atom, Simple, checked_simple, minus_simple, times_simple, over_simple, compare_simple}

module _ (N : Type 0) (D : Desc N → Type 0) where
  abbrev pub AnswerRefers : Answer N → Type 0
  AnswerRefers (Ok v) = Refers D v
  AnswerRefers (Err k) = Unit {0}

  abbrev pub OptionRefers : Option (Val N) → Type 0
  OptionRefers None = Unit {0}
  OptionRefers (Some v) = Refers D v

  atom_refers : (v : Val N) → Atom N v → Refers D v
  atom_refers null h = tt
  atom_refers (truth b) h = tt
  atom_refers (num z) h = tt
  atom_refers (text t) h = absurd h
  atom_refers (list vs) h = absurd h
  atom_refers (dict ps) h = absurd h
  atom_refers (fun f c) h = absurd h
  atom_refers (ref d) h = absurd h

  pub simple_refers : (o : Answer N) → Simple N o → AnswerRefers o
  simple_refers (Ok v) h = atom_refers v h
  simple_refers (Err k) h = tt

  pub limited_refers : (v : Val N) → Refers D v → AnswerRefers (limited v)
  limited_refers v h = go (nat_lt 100 (depth v)) (nat_lt 262144 (size v))
    where
      go : (a b : Bool) → AnswerRefers (unless a b v)
      go true b = tt
      go false true = tt
      go false false = h

  -- ---- parts of values

  pub put_refers : (k : List ℕ) (v : Val N) (ps : Pairs N) → Refers D v → PairsRefer D ps → PairsRefer D (put k v ps)
  put_refers k v no_pairs h i = (h, tt)
  put_refers k v (pair l w ps) h i = go (slice_cmp nat_cmp k l) (put_refers k v ps h i.1)
    where
      go : (o : Ordering) → PairsRefer D (put k v ps) → PairsRefer D (match_ordering o (pair k v (pair l w ps)) (pair l v ps) (pair l w (put k v ps)))
      go Ordering.Less j = (h, i)
      go Ordering.Equal j = (h, i.1)
      go Ordering.Greater j = (i.0, j)

  pub find_refers : (k : List ℕ) (ps : Pairs N) → PairsRefer D ps → OptionRefers (find k ps)
  find_refers k no_pairs h = tt
  find_refers k (pair l v ps) h = go (slice_cmp nat_cmp k l) (find_refers k ps h.1)
    where
      go : (o : Ordering) → OptionRefers (find k ps) → OptionRefers (match_ordering o None (Some v) (find k ps))
      go Ordering.Less i = tt
      go Ordering.Equal i = h.0
      go Ordering.Greater i = i

  pub caught_refers : (us : List (List ℕ)) (ps : Pairs N) → PairsRefer D ps → PairsRefer D (caught_by us ps)
  caught_refers us no_pairs h = tt
  caught_refers us (pair k v ps) h = go (is_one_of k us) (caught_refers us ps h.1)
    where
      go : (b : Bool) → PairsRefer D (caught_by us ps) → PairsRefer D (caught_if b k v (caught_by us ps))
      go true i = (h.0, i)
      go false i = i

  or_else_refers : (o : Option (Val N)) (k : _) → OptionRefers o → AnswerRefers (or_else o k)
  or_else_refers None k h = tt
  or_else_refers (Some v) k h = h

  val_at_refers : (vs : Vals N) (i : ℕ) → ValsRefer D vs → OptionRefers (val_at vs i)
  val_at_refers no_vals i h = tt
  val_at_refers (val v vs) zero h = h.0
  val_at_refers (val v vs) (suc i) h = val_at_refers vs i h.1

  join_refers : (vs ws : Vals N) → ValsRefer D vs → ValsRefer D ws → ValsRefer D (join vs ws)
  join_refers no_vals ws h i = i
  join_refers (val v vs) ws h i = (h.0, join_refers vs ws h.1 i)

  add_refers : (vs : Vals N) (e : Val N) → ValsRefer D vs → Refers D e → ValsRefer D (add_val vs e)
  add_refers no_vals e h i = (i, tt)
  add_refers (val v vs) e h i = (h.0, add_refers vs e h.1 i)

  abbrev SomeRefer : Option (Vals N) → Type 0
  SomeRefer None = Unit {0}
  SomeRefer (Some vs) = ValsRefer D vs

  put_val_refers : (vs : Vals N) (i : ℕ) (e : Val N) → ValsRefer D vs → Refers D e → SomeRefer (put_val vs i e)
  put_val_refers no_vals i e h r = tt
  put_val_refers (val v vs) zero e h r = (r, h.1)
  put_val_refers (val v vs) (suc i) e h r = go (put_val vs i e) (put_val_refers vs i e h.1 r)
    where
      go : (o : Option (Vals N)) → SomeRefer o → SomeRefer (option_map (val v) o)
      go None j = tt
      go (Some us) j = (h.0, j)

  limited_list_refers : (o : Option (Vals N)) → SomeRefer o → AnswerRefers (limited_list o)
  limited_list_refers None h = tt
  limited_list_refers (Some vs) h = limited_refers (list vs) h

  -- ---- operators

  num_plus : (a : ℤ) (v : Val N) → AnswerRefers (plus (num a) v)
  num_plus a (num b) = simple_refers (checked (a +ℤ b)) (checked_simple N (a +ℤ b))
  num_plus a null = tt
  num_plus a (truth b) = tt
  num_plus a (text t) = tt
  num_plus a (list vs) = tt
  num_plus a (dict ps) = tt
  num_plus a (fun f c) = tt
  num_plus a (ref d) = tt

  text_plus : (s : List ℕ) (v : Val N) → AnswerRefers (plus (text s) v)
  text_plus s (text t) = limited_refers (text (s ++ t)) tt
  text_plus s null = tt
  text_plus s (truth b) = tt
  text_plus s (num z) = tt
  text_plus s (list vs) = tt
  text_plus s (dict ps) = tt
  text_plus s (fun f c) = tt
  text_plus s (ref d) = tt

  list_plus : (vs : Vals N) (v : Val N) → ValsRefer D vs → Refers D v → AnswerRefers (plus (list vs) v)
  list_plus vs (list ws) h i = limited_refers (list (join vs ws)) (join_refers vs ws h i)
  list_plus vs null h i = tt
  list_plus vs (truth b) h i = tt
  list_plus vs (num z) h i = tt
  list_plus vs (text t) h i = tt
  list_plus vs (dict ps) h i = tt
  list_plus vs (fun f c) h i = tt
  list_plus vs (ref d) h i = tt

  plus_refers : (v w : Val N) → Refers D v → Refers D w → AnswerRefers (plus v w)
  plus_refers (num a) w h i = num_plus a w
  plus_refers (text s) w h i = text_plus s w
  plus_refers (list vs) w h i = list_plus vs w h i
  plus_refers null w h i = tt
  plus_refers (truth b) w h i = tt
  plus_refers (dict ps) w h i = tt
  plus_refers (fun f c) w h i = tt
  plus_refers (ref d) w h i = tt

  remainder_refers : (a b : ℤ) → AnswerRefers (rest_num a b)
  remainder_refers a (pos zero) = tt
  remainder_refers a (pos (suc b)) = tt
  remainder_refers a (negsuc b) = tt

  num_rest : (a : ℤ) (v : Val N) → AnswerRefers (rest (num a) v)
  num_rest a (num b) = remainder_refers a b
  num_rest a null = tt
  num_rest a (truth b) = tt
  num_rest a (text t) = tt
  num_rest a (list vs) = tt
  num_rest a (dict ps) = tt
  num_rest a (fun f c) = tt
  num_rest a (ref d) = tt

  rest_refers : (v w : Val N) → AnswerRefers (rest v w)
  rest_refers (num a) w = num_rest a w
  rest_refers null w = tt
  rest_refers (truth b) w = tt
  rest_refers (text t) w = tt
  rest_refers (list vs) w = tt
  rest_refers (dict ps) w = tt
  rest_refers (fun f c) w = tt
  rest_refers (ref d) w = tt

  pub oper_refers : (o : Oper) (a b : Val N) → Refers D a → Refers D b → AnswerRefers (oper o a b)
  oper_refers Oper.plus a b h i = plus_refers a b h i
  oper_refers Oper.minus a b h i = simple_refers (minus a b) (minus_simple N a b)
  oper_refers Oper.times a b h i = simple_refers (times a b) (times_simple N a b)
  oper_refers Oper.over a b h i = simple_refers (over a b) (over_simple N a b)
  oper_refers Oper.rest a b h i = rest_refers a b
  oper_refers (Oper.compare o) a b h i = simple_refers (compare o a b) (compare_simple N o a b)

  list_index : (vs : Vals N) (i : Val N) → ValsRefer D vs → AnswerRefers (index (list vs) i)
  list_index vs (num (pos i)) h = or_else_refers (val_at vs i) _ (val_at_refers vs i h)
  list_index vs (num (negsuc i)) h = tt
  list_index vs null h = tt
  list_index vs (truth b) h = tt
  list_index vs (text t) h = tt
  list_index vs (list us) h = tt
  list_index vs (dict ps) h = tt
  list_index vs (fun f c) h = tt
  list_index vs (ref d) h = tt

  dict_index : (ps : Pairs N) (i : Val N) → PairsRefer D ps → AnswerRefers (index (dict ps) i)
  dict_index ps (text k) h = or_else_refers (find k ps) _ (find_refers k ps h)
  dict_index ps null h = tt
  dict_index ps (truth b) h = tt
  dict_index ps (num z) h = tt
  dict_index ps (list us) h = tt
  dict_index ps (dict qs) h = tt
  dict_index ps (fun f c) h = tt
  dict_index ps (ref d) h = tt

  pub index_refers : (v i : Val N) → Refers D v → AnswerRefers (index v i)
  index_refers (list vs) i h = list_index vs i h
  index_refers (dict ps) i h = dict_index ps i h
  index_refers null i h = tt
  index_refers (truth b) i h = tt
  index_refers (num z) i h = tt
  index_refers (text t) i h = tt
  index_refers (fun f c) i h = tt
  index_refers (ref d) i h = tt

  list_set : (vs : Vals N) (i e : Val N) → ValsRefer D vs → Refers D e → AnswerRefers (set_at (list vs) i e)
  list_set vs (num (pos i)) e h r = limited_list_refers (put_val vs i e) (put_val_refers vs i e h r)
  list_set vs (num (negsuc i)) e h r = tt
  list_set vs null e h r = tt
  list_set vs (truth b) e h r = tt
  list_set vs (text t) e h r = tt
  list_set vs (list us) e h r = tt
  list_set vs (dict ps) e h r = tt
  list_set vs (fun f c) e h r = tt
  list_set vs (ref d) e h r = tt

  dict_set : (ps : Pairs N) (i e : Val N) → PairsRefer D ps → Refers D e → AnswerRefers (set_at (dict ps) i e)
  dict_set ps (text k) e h r = limited_refers (dict (put k e ps)) (put_refers k e ps r h)
  dict_set ps null e h r = tt
  dict_set ps (truth b) e h r = tt
  dict_set ps (num z) e h r = tt
  dict_set ps (list us) e h r = tt
  dict_set ps (dict qs) e h r = tt
  dict_set ps (fun f c) e h r = tt
  dict_set ps (ref d) e h r = tt

  pub set_at_refers : (v i e : Val N) → Refers D v → Refers D e → AnswerRefers (set_at v i e)
  set_at_refers (list vs) i e h r = list_set vs i e h r
  set_at_refers (dict ps) i e h r = dict_set ps i e h r
  set_at_refers null i e h r = tt
  set_at_refers (truth b) i e h r = tt
  set_at_refers (num z) i e h r = tt
  set_at_refers (text t) i e h r = tt
  set_at_refers (fun f c) i e h r = tt
  set_at_refers (ref d) i e h r = tt

  pub grown_refers : (v e : Val N) → Refers D v → Refers D e → AnswerRefers (grown v e)
  grown_refers (list vs) e h r = limited_refers (list (add_val vs e)) (add_refers vs e h r)
  grown_refers null e h r = tt
  grown_refers (truth b) e h r = tt
  grown_refers (num z) e h r = num_plus z e
  grown_refers (text t) e h r = text_plus t e
  grown_refers (dict ps) e h r = tt
  grown_refers (fun f c) e h r = tt
  grown_refers (ref d) e h r = tt

  -- ---- how many there are, and their keys

  pub len_refers : (v : Val N) → AnswerRefers (len v)
  len_refers (text t) = tt
  len_refers (list vs) = tt
  len_refers (dict ps) = tt
  len_refers null = tt
  len_refers (truth b) = tt
  len_refers (num z) = tt
  len_refers (fun f c) = tt
  len_refers (ref d) = tt

  all_keys_refers : (ps : Pairs N) → ValsRefer D (all_keys ps)
  all_keys_refers no_pairs = tt
  all_keys_refers (pair k v ps) = (tt, all_keys_refers ps)

  pub keys_refers : (v : Val N) → AnswerRefers (keys v)
  keys_refers (dict ps) = limited_refers (list (all_keys ps)) (all_keys_refers ps)
  keys_refers null = tt
  keys_refers (truth b) = tt
  keys_refers (num z) = tt
  keys_refers (text t) = tt
  keys_refers (list vs) = tt
  keys_refers (fun f c) = tt
  keys_refers (ref d) = tt

  -- ---- numbers from one to another

  numbers_refer : (n : ℕ) (a : ℤ) → ValsRefer D (numbers {N = N} n a)
  numbers_refer zero a = tt
  numbers_refer (suc n) a = (tt, numbers_refer n (a +ℤ pos 1))

  range_if_refers : (m : Bool) (n : ℕ) (a : ℤ) → AnswerRefers (range_if {N = N} m n a)
  range_if_refers true n a = tt
  range_if_refers false n a = numbers_refer n a

  num_range : (a : ℤ) (v : Val N) → AnswerRefers (range (num a) v)
  num_range a (num b) = range_if_refers (nat_lt 262143 (span (b -ℤ a))) (span (b -ℤ a)) a
  num_range a null = tt
  num_range a (truth b) = tt
  num_range a (text t) = tt
  num_range a (list vs) = tt
  num_range a (dict ps) = tt
  num_range a (fun x c) = tt
  num_range a (ref d) = tt

  pub range_refers : (a b : Val N) → AnswerRefers (range a b)
  range_refers (num a) w = num_range a w
  range_refers null w = tt
  range_refers (truth b) w = tt
  range_refers (text t) w = tt
  range_refers (list vs) w = tt
  range_refers (dict ps) w = tt
  range_refers (fun f c) w = tt
  range_refers (ref d) w = tt

  -- ---- forms of parts

  vals_refers : (vs : List (Val N)) → Each (Refers D) vs → ValsRefer D (vals_of vs)
  vals_refers [] h = tt
  vals_refers (v ∷ vs) h = (h.0, vals_refers vs h.1)

  pub list_refers : (vs : List (Val N)) → Each (Refers D) vs → AnswerRefers (limited (list (vals_of vs)))
  list_refers vs h = limited_refers (list (vals_of vs)) (vals_refers vs h)

  with_key_refers : (k v : Val N) (ps : Pairs N) (go : Pairs N → Answer N) → Refers D v → PairsRefer D ps
      → ((qs : Pairs N) → PairsRefer D qs → AnswerRefers (go qs)) → AnswerRefers (with_key k v ps go)
  with_key_refers (text k) v ps go r h g = g (put k v ps) (put_refers k v ps r h)
  with_key_refers null v ps go r h g = tt
  with_key_refers (truth b) v ps go r h g = tt
  with_key_refers (num z) v ps go r h g = tt
  with_key_refers (list vs) v ps go r h g = tt
  with_key_refers (dict qs) v ps go r h g = tt
  with_key_refers (fun f c) v ps go r h g = tt
  with_key_refers (ref d) v ps go r h g = tt

  pub dict_refers : (vs : List (Val N)) (ps : Pairs N) → Each (Refers D) vs → PairsRefer D ps → AnswerRefers (dict_from vs ps)
  dict_refers [] ps h r = limited_refers (dict ps) r
  dict_refers (k ∷ []) ps h r = tt
  dict_refers (k ∷ v ∷ vs) ps h r = with_key_refers k v ps _ h.1.0 r (λ qs i. dict_refers vs qs h.1.1 i)

  pub lit_refers : (l : Lit) → AnswerRefers (limited (lit_val l))
  lit_refers Lit.null = limited_refers null tt
  lit_refers (Lit.truth b) = limited_refers (truth b) tt
  lit_refers (Lit.num z) = limited_refers (num z) tt
  lit_refers (Lit.text t) = limited_refers (text t) tt

  pub refs_refers : (ds : List (Desc N)) → Each (λ d. Refers D (ref d)) ds → ValsRefer D (refs_to ds)
  refs_refers [] h = tt
  refs_refers (d ∷ ds) h = (h.0, refs_refers ds h.1)

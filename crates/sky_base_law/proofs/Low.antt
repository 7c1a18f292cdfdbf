-- An operator on lowered values gives the lowered answer.
use Rattle.std.proofs.Common.{length, ◌≡◌, ℕ, zero, suc, ◌+◌, max, ℤ, pos, negsuc, ◌+ℤ◌, ◌-ℤ◌, ◌*ℤ◌, int_div, List, [], ◌∷◌, ◌++◌, map, Bool, true}
use Rattle.std.proofs.Common.{false, not, ◌&&◌, Ok, Option, Some, None, nat_lt, refl, sym, ap, ap₂, ◌∙◌}
use Rattle.std.specs.Ordering.{nat_cmp, int_eq, match_ordering, is_lt, is_le, is_gt, is_ge}
use Rattle.std.specs.Cmp.Lexicographic.{slice_cmp}
use Rattle.std.specs.declared.cmp.Ordering.{Ordering}
use Rattle.std.specs.Option.{option_map}
use Rattle.sky_base.specs.Val.{Val, Vals, Pairs, Desc, null, truth, num, text, list, dict, fun, ref, no_vals, val, no_pairs, pair, call, out, input}
use Rattle.sky_base.specs.Val.{known, size, sizes, pair_sizes, depth, depths, pair_depths, add_val, count, pair_count, vals_of, refs_to, is_plain}
use Rattle.sky_base.specs.Val.{vals_plain, pairs_plain, same_bool, same_text, if_null, if_truth, if_num, if_text, if_list, if_dict, if_val}
use Rattle.sky_base.specs.Val.{if_no_vals, if_pair, if_no_pairs, same_val, same_vals, same_pairs}
use Rattle.sky_base.specs.Op.{Answer, checked, fits, if_fits, unless, limited, join, plus, plus_num, plus_text, plus_list, minus, minus_num, times}
use Rattle.sky_base.specs.Op.{times_num, over, over_by, over_num, rest, rest_by, rest_num, index, index_list, index_dict, val_at, find, put, or_else}
use Rattle.sky_base.specs.Op.{put_val, set_at, set_list, set_dict, limited_list, append, grown, Order, equal_if, equal, unequal, order_num}
use Rattle.sky_base.specs.Op.{order_text, ordered, compare, negated, opposite, len, all_keys, keys, is_there, has_key, has, numbers, span, range_if}
use Rattle.sky_base.specs.Op.{range_to, range, with_key, dict_from}
use Rattle.sky_base.specs.Name.{name, low, low_vals, low_pairs, low_desc}
use Rattle.sky_base.specs.Eval.{bind, left}
use Rattle.sky_base_law.specs.Lower.{lower, low_ref}
use Rattle.sky_base.specs.declared.fault.FaultKind.{FaultKind}

module _ {N : Type 0} (spell : N → List ℕ) (tag : Desc (List ℕ) → List ℕ) where
  mutual
    pub size_low : (v : Val N) → size (low spell tag v) ≡ size v
    size_low null = refl
    size_low (truth b) = refl
    size_low (num z) = refl
    size_low (text t) = refl
    size_low (list vs) = ap (λ n. 1 + n) (sizes_low vs)
    size_low (dict ps) = ap (λ n. 1 + n) (pair_sizes_low ps)
    size_low (fun f c) = ap (λ n. 1 + (length f + n)) (pair_sizes_low c)
    size_low (ref d) = refl

    pub sizes_low : (vs : Vals N) → sizes (low_vals spell tag vs) ≡ sizes vs
    sizes_low no_vals = refl
    sizes_low (val v vs) = λ i. size_low v i + sizes_low vs i

    pub pair_sizes_low : (ps : Pairs N) → pair_sizes (low_pairs spell tag ps) ≡ pair_sizes ps
    pair_sizes_low no_pairs = refl
    pair_sizes_low (pair k v ps) = rw (size_low v, pair_sizes_low ps) refl

  mutual
    pub depth_low : (v : Val N) → depth (low spell tag v) ≡ depth v
    depth_low null = refl
    depth_low (truth b) = refl
    depth_low (num z) = refl
    depth_low (text t) = refl
    depth_low (list vs) = ap (λ n. 1 + n) (depths_low vs)
    depth_low (dict ps) = ap (λ n. 1 + n) (pair_depths_low ps)
    depth_low (fun f c) = ap (λ n. 1 + n) (pair_depths_low c)
    depth_low (ref d) = refl

    pub depths_low : (vs : Vals N) → depths (low_vals spell tag vs) ≡ depths vs
    depths_low no_vals = refl
    depths_low (val v vs) = λ i. max (depth_low v i) (depths_low vs i)

    pub pair_depths_low : (ps : Pairs N) → pair_depths (low_pairs spell tag ps) ≡ pair_depths ps
    pair_depths_low no_pairs = refl
    pair_depths_low (pair k v ps) = λ i. max (depth_low v i) (pair_depths_low ps i)

  unless_low : (a b : Bool) (v : Val N) → unless a b (low spell tag v) ≡ lower spell tag (unless a b v)
  unless_low true b v = refl
  unless_low false true v = refl
  unless_low false false v = refl

  pub limited_low : (v : Val N) → limited (low spell tag v) ≡ lower spell tag (limited v)
  limited_low v =
      (λ i. unless (nat_lt 100 (depth_low v i)) (nat_lt 262144 (size_low v i)) (low spell tag v))
      ∙ unless_low (nat_lt 100 (depth v)) (nat_lt 262144 (size v)) v

  if_fits_low : (b : Bool) (z : ℤ) → if_fits b z ≡ lower spell tag (if_fits b z)
  if_fits_low true z = refl
  if_fits_low false z = refl

  checked_low : (z : ℤ) → checked z ≡ lower spell tag (checked z)
  checked_low z = if_fits_low (fits z) z

  join_low : (a b : Vals N) → low_vals spell tag (join a b) ≡ join (low_vals spell tag a) (low_vals spell tag b)
  join_low no_vals b = refl
  join_low (val v vs) b = ap (val (low spell tag v)) (join_low vs b)

  plus_num_low : (a : ℤ) (b : Val N) → plus_num a (low spell tag b) ≡ lower spell tag (plus_num a b)
  plus_num_low a (num b) = checked_low (a +ℤ b)
  plus_num_low a null = refl
  plus_num_low a (truth b) = refl
  plus_num_low a (text t) = refl
  plus_num_low a (list vs) = refl
  plus_num_low a (dict ps) = refl
  plus_num_low a (fun f c) = refl
  plus_num_low a (ref d) = refl

  plus_text_low : (s : List ℕ) (b : Val N) → plus_text s (low spell tag b) ≡ lower spell tag (plus_text s b)
  plus_text_low s (text t) = limited_low (text (s ++ t))
  plus_text_low s null = refl
  plus_text_low s (num z) = refl
  plus_text_low s (truth b) = refl
  plus_text_low s (list vs) = refl
  plus_text_low s (dict ps) = refl
  plus_text_low s (fun f c) = refl
  plus_text_low s (ref d) = refl

  plus_list_low : (a : Vals N) (b : Val N) → plus_list (low_vals spell tag a) (low spell tag b) ≡ lower spell tag (plus_list a b)
  plus_list_low a (list b) = ap (λ vs. limited (list vs)) (sym (join_low a b)) ∙ limited_low (list (join a b))
  plus_list_low a null = refl
  plus_list_low a (num z) = refl
  plus_list_low a (truth b) = refl
  plus_list_low a (text t) = refl
  plus_list_low a (dict ps) = refl
  plus_list_low a (fun f c) = refl
  plus_list_low a (ref d) = refl

  pub plus_low : (a b : Val N) → plus (low spell tag a) (low spell tag b) ≡ lower spell tag (plus a b)
  plus_low (num a) b = plus_num_low a b
  plus_low (text s) b = plus_text_low s b
  plus_low (list a) b = plus_list_low a b
  plus_low null b = refl
  plus_low (truth a) b = refl
  plus_low (dict ps) b = refl
  plus_low (fun f c) b = refl
  plus_low (ref d) b = refl

  val_at_low : (vs : Vals N) (i : ℕ) (k : FaultKind) → or_else (val_at (low_vals spell tag vs) i) k ≡ lower spell tag (or_else (val_at vs i) k)
  val_at_low no_vals i k = refl
  val_at_low (val v vs) zero k = refl
  val_at_low (val v vs) (suc i) k = val_at_low vs i k

  find_step : (o : Ordering) (v : Val N) (a : Option (Val (List ℕ))) (b : Option (Val N)) (k : FaultKind) → or_else a k ≡ lower spell tag (or_else b k)
      → or_else (match_ordering o None (Some (low spell tag v)) a) k ≡ lower spell tag (or_else (match_ordering o None (Some v) b) k)
  find_step Ordering.Less v a b k h = refl
  find_step Ordering.Equal v a b k h = refl
  find_step Ordering.Greater v a b k h = h

  find_low : (key : List ℕ) (ps : Pairs N) (k : FaultKind) → or_else (find key (low_pairs spell tag ps)) k ≡ lower spell tag (or_else (find key ps) k)
  find_low key no_pairs k = refl
  find_low key (pair l v ps) k = find_step (slice_cmp nat_cmp key l) v _ _ k (find_low key ps k)

  put_step : (o : Ordering) (a b c : Pairs N) (a' b' c' : Pairs (List ℕ)) → low_pairs spell tag a ≡ a' → low_pairs spell tag b ≡ b' → low_pairs spell tag c ≡ c'
      → low_pairs spell tag (match_ordering o a b c) ≡ match_ordering o a' b' c'
  put_step Ordering.Less a b c a' b' c' e f g = e
  put_step Ordering.Equal a b c a' b' c' e f g = f
  put_step Ordering.Greater a b c a' b' c' e f g = g

  pub put_low : (key : List ℕ) (v : Val N) (ps : Pairs N) → low_pairs spell tag (put key v ps) ≡ put key (low spell tag v) (low_pairs spell tag ps)
  put_low key v no_pairs = refl
  put_low key v (pair l w ps) =
      put_step (slice_cmp nat_cmp key l) _ _ _ _ _ _ refl refl (ap (pair l (low spell tag w)) (put_low key v ps))

  option_step : (o : Option (Vals N)) (v : Val N) → option_map (val (low spell tag v)) (option_map (low_vals spell tag) o) ≡ option_map (low_vals spell tag) (option_map (val v) o)
  option_step None v = refl
  option_step (Some ws) v = refl

  put_val_low : (vs : Vals N) (i : ℕ) (e : Val N) → put_val (low_vals spell tag vs) i (low spell tag e) ≡ option_map (low_vals spell tag) (put_val vs i e)
  put_val_low no_vals i e = refl
  put_val_low (val v vs) zero e = refl
  put_val_low (val v vs) (suc i) e = ap (option_map (val (low spell tag v))) (put_val_low vs i e) ∙ option_step (put_val vs i e) v

  limited_list_low : (o : Option (Vals N)) → limited_list (option_map (low_vals spell tag) o) ≡ lower spell tag (limited_list o)
  limited_list_low None = refl
  limited_list_low (Some vs) = limited_low (list vs)

  set_list_low : (vs : Vals N) (i e : Val N) → set_list (low_vals spell tag vs) (low spell tag i) (low spell tag e) ≡ lower spell tag (set_list vs i e)
  set_list_low vs (num (pos i)) e = ap limited_list (put_val_low vs i e) ∙ limited_list_low (put_val vs i e)
  set_list_low vs (num (negsuc i)) e = refl
  set_list_low vs null e = refl
  set_list_low vs (truth b) e = refl
  set_list_low vs (text t) e = refl
  set_list_low vs (list ws) e = refl
  set_list_low vs (dict ps) e = refl
  set_list_low vs (fun f c) e = refl
  set_list_low vs (ref d) e = refl

  set_dict_low : (ps : Pairs N) (i e : Val N) → set_dict (low_pairs spell tag ps) (low spell tag i) (low spell tag e) ≡ lower spell tag (set_dict ps i e)
  set_dict_low ps (text k) e = ap (λ qs. limited (dict qs)) (sym (put_low k e ps)) ∙ limited_low (dict (put k e ps))
  set_dict_low ps (num z) e = refl
  set_dict_low ps null e = refl
  set_dict_low ps (truth b) e = refl
  set_dict_low ps (list ws) e = refl
  set_dict_low ps (dict qs) e = refl
  set_dict_low ps (fun f c) e = refl
  set_dict_low ps (ref d) e = refl

  pub set_at_low : (v i e : Val N) → set_at (low spell tag v) (low spell tag i) (low spell tag e) ≡ lower spell tag (set_at v i e)
  set_at_low (list vs) i e = set_list_low vs i e
  set_at_low (dict ps) i e = set_dict_low ps i e
  set_at_low (num z) i e = refl
  set_at_low null i e = refl
  set_at_low (truth b) i e = refl
  set_at_low (text t) i e = refl
  set_at_low (fun f c) i e = refl
  set_at_low (ref d) i e = refl

  index_list_low : (vs : Vals N) (i : Val N) → index_list (low_vals spell tag vs) (low spell tag i) ≡ lower spell tag (index_list vs i)
  index_list_low vs (num (pos i)) = val_at_low vs i FaultKind.NoIndex
  index_list_low vs (num (negsuc i)) = refl
  index_list_low vs null = refl
  index_list_low vs (truth b) = refl
  index_list_low vs (text t) = refl
  index_list_low vs (list ws) = refl
  index_list_low vs (dict ps) = refl
  index_list_low vs (fun f c) = refl
  index_list_low vs (ref d) = refl

  index_dict_low : (ps : Pairs N) (i : Val N) → index_dict (low_pairs spell tag ps) (low spell tag i) ≡ lower spell tag (index_dict ps i)
  index_dict_low ps (text k) = find_low k ps FaultKind.NoKey
  index_dict_low ps (num z) = refl
  index_dict_low ps null = refl
  index_dict_low ps (truth b) = refl
  index_dict_low ps (list ws) = refl
  index_dict_low ps (dict qs) = refl
  index_dict_low ps (fun f c) = refl
  index_dict_low ps (ref d) = refl

  pub index_low : (v i : Val N) → index (low spell tag v) (low spell tag i) ≡ lower spell tag (index v i)
  index_low (list vs) i = index_list_low vs i
  index_low (dict ps) i = index_dict_low ps i
  index_low (num z) i = refl
  index_low null i = refl
  index_low (truth b) i = refl
  index_low (text t) i = refl
  index_low (fun f c) i = refl
  index_low (ref d) i = refl

  -- ---- the other operators

  minus_num_low : (a : ℤ) (b : Val N) → minus_num a (low spell tag b) ≡ lower spell tag (minus_num a b)
  minus_num_low a (num b) = checked_low (a -ℤ b)
  minus_num_low a null = refl
  minus_num_low a (truth x) = refl
  minus_num_low a (text x) = refl
  minus_num_low a (list xs) = refl
  minus_num_low a (dict xs) = refl
  minus_num_low a (fun x c) = refl
  minus_num_low a (ref x) = refl

  pub minus_low : (a b : Val N) → minus (low spell tag a) (low spell tag b) ≡ lower spell tag (minus a b)
  minus_low (num a) b = minus_num_low a b
  minus_low null b = refl
  minus_low (truth x) b = refl
  minus_low (text x) b = refl
  minus_low (list xs) b = refl
  minus_low (dict xs) b = refl
  minus_low (fun x c) b = refl
  minus_low (ref x) b = refl

  times_num_low : (a : ℤ) (b : Val N) → times_num a (low spell tag b) ≡ lower spell tag (times_num a b)
  times_num_low a (num b) = checked_low (a *ℤ b)
  times_num_low a null = refl
  times_num_low a (truth x) = refl
  times_num_low a (text x) = refl
  times_num_low a (list xs) = refl
  times_num_low a (dict xs) = refl
  times_num_low a (fun x c) = refl
  times_num_low a (ref x) = refl

  pub times_low : (a b : Val N) → times (low spell tag a) (low spell tag b) ≡ lower spell tag (times a b)
  times_low (num a) b = times_num_low a b
  times_low null b = refl
  times_low (truth x) b = refl
  times_low (text x) b = refl
  times_low (list xs) b = refl
  times_low (dict xs) b = refl
  times_low (fun x c) b = refl
  times_low (ref x) b = refl

  over_num_low : (a b : ℤ) → over_num a b ≡ lower spell tag (over_num a b)
  over_num_low a (pos zero) = refl
  over_num_low a (pos (suc b)) = checked_low (int_div a (pos (suc b)))
  over_num_low a (negsuc b) = checked_low (int_div a (negsuc b))

  rest_num_low : (a b : ℤ) → rest_num a b ≡ lower spell tag (rest_num a b)
  rest_num_low a (pos zero) = refl
  rest_num_low a (pos (suc b)) = refl
  rest_num_low a (negsuc b) = refl

  over_by_low : (a : ℤ) (b : Val N) → over_by a (low spell tag b) ≡ lower spell tag (over_by a b)
  over_by_low a (num b) = over_num_low a b
  over_by_low a null = refl
  over_by_low a (truth x) = refl
  over_by_low a (text x) = refl
  over_by_low a (list xs) = refl
  over_by_low a (dict xs) = refl
  over_by_low a (fun x c) = refl
  over_by_low a (ref x) = refl

  pub over_low : (a b : Val N) → over (low spell tag a) (low spell tag b) ≡ lower spell tag (over a b)
  over_low (num a) b = over_by_low a b
  over_low null b = refl
  over_low (truth x) b = refl
  over_low (text x) b = refl
  over_low (list xs) b = refl
  over_low (dict xs) b = refl
  over_low (fun x c) b = refl
  over_low (ref x) b = refl

  rest_by_low : (a : ℤ) (b : Val N) → rest_by a (low spell tag b) ≡ lower spell tag (rest_by a b)
  rest_by_low a (num b) = rest_num_low a b
  rest_by_low a null = refl
  rest_by_low a (truth x) = refl
  rest_by_low a (text x) = refl
  rest_by_low a (list xs) = refl
  rest_by_low a (dict xs) = refl
  rest_by_low a (fun x c) = refl
  rest_by_low a (ref x) = refl

  pub rest_low : (a b : Val N) → rest (low spell tag a) (low spell tag b) ≡ lower spell tag (rest a b)
  rest_low (num a) b = rest_by_low a b
  rest_low null b = refl
  rest_low (truth x) b = refl
  rest_low (text x) b = refl
  rest_low (list xs) b = refl
  rest_low (dict xs) b = refl
  rest_low (fun x c) b = refl
  rest_low (ref x) b = refl

  add_val_low : (vs : Vals N) (e : Val N) → add_val (low_vals spell tag vs) (low spell tag e) ≡ low_vals spell tag (add_val vs e)
  add_val_low no_vals e = refl
  add_val_low (val v vs) e = ap (val (low spell tag v)) (add_val_low vs e)

  pub append_low : (v e : Val N) → append (low spell tag v) (low spell tag e) ≡ lower spell tag (append v e)
  append_low (list vs) e = ap (λ us. limited (list us)) (add_val_low vs e) ∙ limited_low (list (add_val vs e))
  append_low null e = refl
  append_low (truth x) e = refl
  append_low (num x) e = refl
  append_low (text x) e = refl
  append_low (dict xs) e = refl
  append_low (fun x c) e = refl
  append_low (ref x) e = refl

  pub grown_low : (v e : Val N) → grown (low spell tag v) (low spell tag e) ≡ lower spell tag (grown v e)
  grown_low (list vs) e = append_low (list vs) e
  grown_low null e = plus_low null e
  grown_low (truth x) e = plus_low (truth x) e
  grown_low (num x) e = plus_low (num x) e
  grown_low (text x) e = plus_low (text x) e
  grown_low (dict xs) e = plus_low (dict xs) e
  grown_low (fun x c) e = plus_low (fun x c) e
  grown_low (ref x) e = plus_low (ref x) e

  if_null_low : (u : Val N) → if_null (low spell tag u) ≡ if_null u
  if_null_low null = refl
  if_null_low (truth x) = refl
  if_null_low (num x) = refl
  if_null_low (text x) = refl
  if_null_low (list xs) = refl
  if_null_low (dict xs) = refl
  if_null_low (fun x c) = refl
  if_null_low (ref x) = refl

  if_truth_low : (u : Val N) (k : Bool → Bool) → if_truth (low spell tag u) k ≡ if_truth u k
  if_truth_low null k = refl
  if_truth_low (truth x) k = refl
  if_truth_low (num x) k = refl
  if_truth_low (text x) k = refl
  if_truth_low (list xs) k = refl
  if_truth_low (dict xs) k = refl
  if_truth_low (fun x c) k = refl
  if_truth_low (ref x) k = refl

  if_num_low : (u : Val N) (k : ℤ → Bool) → if_num (low spell tag u) k ≡ if_num u k
  if_num_low null k = refl
  if_num_low (truth x) k = refl
  if_num_low (num x) k = refl
  if_num_low (text x) k = refl
  if_num_low (list xs) k = refl
  if_num_low (dict xs) k = refl
  if_num_low (fun x c) k = refl
  if_num_low (ref x) k = refl

  if_text_low : (u : Val N) (k : List ℕ → Bool) → if_text (low spell tag u) k ≡ if_text u k
  if_text_low null k = refl
  if_text_low (truth x) k = refl
  if_text_low (num x) k = refl
  if_text_low (text x) k = refl
  if_text_low (list xs) k = refl
  if_text_low (dict xs) k = refl
  if_text_low (fun x c) k = refl
  if_text_low (ref x) k = refl

  if_list_low : (u : Val N) (k : Vals (List ℕ) → Bool) (h : Vals N → Bool) → ((ws : Vals N) → k (low_vals spell tag ws) ≡ h ws) → if_list (low spell tag u) k ≡ if_list u h
  if_list_low (list xs) k h e = e xs
  if_list_low null k h e = refl
  if_list_low (truth x) k h e = refl
  if_list_low (num x) k h e = refl
  if_list_low (text x) k h e = refl
  if_list_low (dict xs) k h e = refl
  if_list_low (fun x c) k h e = refl
  if_list_low (ref x) k h e = refl

  if_dict_low : (u : Val N) (k : Pairs (List ℕ) → Bool) (h : Pairs N → Bool) → ((ws : Pairs N) → k (low_pairs spell tag ws) ≡ h ws) → if_dict (low spell tag u) k ≡ if_dict u h
  if_dict_low (dict xs) k h e = e xs
  if_dict_low null k h e = refl
  if_dict_low (truth x) k h e = refl
  if_dict_low (num x) k h e = refl
  if_dict_low (text x) k h e = refl
  if_dict_low (list xs) k h e = refl
  if_dict_low (fun x c) k h e = refl
  if_dict_low (ref x) k h e = refl

  and_first : (a b : Bool) → a && b ≡ true → a ≡ true
  and_first true b e = refl
  and_first false b e = e

  and_second : (a b : Bool) → a && b ≡ true → b ≡ true
  and_second true b e = e
  and_second false b e = absurd cc

  if_no_vals_low : (ws : Vals N) → if_no_vals (low_vals spell tag ws) ≡ if_no_vals ws
  if_no_vals_low no_vals = refl
  if_no_vals_low (val v vs) = refl

  if_no_pairs_low : (ws : Pairs N) → if_no_pairs (low_pairs spell tag ws) ≡ if_no_pairs ws
  if_no_pairs_low no_pairs = refl
  if_no_pairs_low (pair k v ps) = refl

  if_val_low : (ws : Vals N) (k : Val (List ℕ) → Vals (List ℕ) → Bool) (h : Val N → Vals N → Bool) → ((u : Val N) (us : Vals N) → k (low spell tag u) (low_vals spell tag us) ≡ h u us)
      → if_val (low_vals spell tag ws) k ≡ if_val ws h
  if_val_low no_vals k h e = refl
  if_val_low (val v vs) k h e = e v vs

  if_pair_low : (ws : Pairs N) (k : List ℕ → Val (List ℕ) → Pairs (List ℕ) → Bool) (h : List ℕ → Val N → Pairs N → Bool)
      → ((l : List ℕ) (u : Val N) (us : Pairs N) → k l (low spell tag u) (low_pairs spell tag us) ≡ h l u us) → if_pair (low_pairs spell tag ws) k ≡ if_pair ws h
  if_pair_low no_pairs k h e = refl
  if_pair_low (pair l v vs) k h e = e l v vs

  mutual
    same_low : (v u : Val N) → is_plain v ≡ true → same_val (λ x y. false) (low spell tag v) (low spell tag u) ≡ same_val (λ x y. false) v u
    same_low null u e = if_null_low u
    same_low (truth b) u e = if_truth_low u (λ c. same_bool b c)
    same_low (num z) u e = if_num_low u (λ y. int_eq z y)
    same_low (text s) u e = if_text_low u (λ t. same_text s t)
    same_low (list vs) u e = if_list_low u _ _ (λ ws. same_vals_low vs ws e)
    same_low (dict ps) u e = if_dict_low u _ _ (λ ws. same_pairs_low ps ws e)
    same_low (fun f c) u e = absurd cc
    same_low (ref d) u e = absurd cc

    same_vals_low : (vs us : Vals N) → vals_plain vs ≡ true → same_vals (λ x y. false) (low_vals spell tag vs) (low_vals spell tag us) ≡ same_vals (λ x y. false) vs us
    same_vals_low no_vals us e = if_no_vals_low us
    same_vals_low (val v vs) us e =
        if_val_low us _ _ (λ x xs. ap₂ (λ a b. a && b) (same_low v x (and_first (is_plain v) (vals_plain vs) e)) (same_vals_low vs xs (and_second (is_plain v) (vals_plain vs) e)))

    same_pairs_low : (vs us : Pairs N) → pairs_plain vs ≡ true → same_pairs (λ x y. false) (low_pairs spell tag vs) (low_pairs spell tag us) ≡ same_pairs (λ x y. false) vs us
    same_pairs_low no_pairs us e = if_no_pairs_low us
    same_pairs_low (pair k v vs) us e =
        if_pair_low us _ _ (λ l x xs. ap₂ (λ a b. same_text k l && (a && b)) (same_low v x (and_first (is_plain v) (pairs_plain vs) e))
        (same_pairs_low vs xs (and_second (is_plain v) (pairs_plain vs) e)))

  mutual
    plain_low : (v : Val N) → is_plain (low spell tag v) ≡ is_plain v
    plain_low null = refl
    plain_low (truth b) = refl
    plain_low (num z) = refl
    plain_low (text t) = refl
    plain_low (list vs) = vals_plain_low vs
    plain_low (dict ps) = pairs_plain_low ps
    plain_low (fun f c) = refl
    plain_low (ref d) = refl

    vals_plain_low : (vs : Vals N) → vals_plain (low_vals spell tag vs) ≡ vals_plain vs
    vals_plain_low no_vals = refl
    vals_plain_low (val v vs) = ap₂ (λ a b. a && b) (plain_low v) (vals_plain_low vs)

    pairs_plain_low : (ps : Pairs N) → pairs_plain (low_pairs spell tag ps) ≡ pairs_plain ps
    pairs_plain_low no_pairs = refl
    pairs_plain_low (pair k v ps) = ap₂ (λ a b. a && b) (plain_low v) (pairs_plain_low ps)

  equal_if_low : (b : Bool) (x y : Bool) → (b ≡ true → x ≡ y) → equal_if b x ≡ lower spell tag (equal_if b y)
  equal_if_low true x y e = ap (λ z. Ok (truth z)) (e refl)
  equal_if_low false x y e = refl

  equal_low : (a b : Val N) → equal (low spell tag a) (low spell tag b) ≡ lower spell tag (equal a b)
  equal_low a b =
      ap (λ p. equal_if p (same_val (λ x y. false) (low spell tag a) (low spell tag b))) (ap₂ (λ x y. x && y) (plain_low a) (plain_low b))
      ∙ equal_if_low (is_plain a && is_plain b) _ _ (λ e. same_low a b (and_first (is_plain a) (is_plain b) e))

  unequal_low : (a b : Val N) → unequal (low spell tag a) (low spell tag b) ≡ lower spell tag (unequal a b)
  unequal_low a b =
      ap (λ p. equal_if p (not (same_val (λ x y. false) (low spell tag a) (low spell tag b)))) (ap₂ (λ x y. x && y) (plain_low a) (plain_low b))
      ∙ equal_if_low (is_plain a && is_plain b) _ _ (λ e. ap not (same_low a b (and_first (is_plain a) (is_plain b) e)))

  order_num_low : (t : Ordering → Bool) (a : ℤ) (b : Val N) → order_num t a (low spell tag b) ≡ lower spell tag (order_num t a b)
  order_num_low t a null = refl
  order_num_low t a (truth x) = refl
  order_num_low t a (num x) = refl
  order_num_low t a (text x) = refl
  order_num_low t a (list xs) = refl
  order_num_low t a (dict xs) = refl
  order_num_low t a (fun x c) = refl
  order_num_low t a (ref x) = refl

  order_text_low : (t : Ordering → Bool) (a : List ℕ) (b : Val N) → order_text t a (low spell tag b) ≡ lower spell tag (order_text t a b)
  order_text_low t a null = refl
  order_text_low t a (truth x) = refl
  order_text_low t a (num x) = refl
  order_text_low t a (text x) = refl
  order_text_low t a (list xs) = refl
  order_text_low t a (dict xs) = refl
  order_text_low t a (fun x c) = refl
  order_text_low t a (ref x) = refl

  ordered_low : (t : Ordering → Bool) (a b : Val N) → ordered t (low spell tag a) (low spell tag b) ≡ lower spell tag (ordered t a b)
  ordered_low t (num a) b = order_num_low t a b
  ordered_low t (text a) b = order_text_low t a b
  ordered_low t null b = refl
  ordered_low t (truth x) b = refl
  ordered_low t (list xs) b = refl
  ordered_low t (dict xs) b = refl
  ordered_low t (fun x c) b = refl
  ordered_low t (ref x) b = refl

  pub compare_low : (o : Order) (a b : Val N) → compare o (low spell tag a) (low spell tag b) ≡ lower spell tag (compare o a b)
  compare_low Order.eq a b = equal_low a b
  compare_low Order.ne a b = unequal_low a b
  compare_low Order.lt a b = ordered_low is_lt a b
  compare_low Order.le a b = ordered_low is_le a b
  compare_low Order.gt a b = ordered_low is_gt a b
  compare_low Order.ge a b = ordered_low is_ge a b

  pub negated_low : (v : Val N) → negated (low spell tag v) ≡ lower spell tag (negated v)
  negated_low (num z) = checked_low (pos 0 -ℤ z)
  negated_low null = refl
  negated_low (truth x) = refl
  negated_low (text x) = refl
  negated_low (list xs) = refl
  negated_low (dict xs) = refl
  negated_low (fun x c) = refl
  negated_low (ref x) = refl

  pub opposite_low : (v : Val N) → opposite (low spell tag v) ≡ lower spell tag (opposite v)
  opposite_low null = refl
  opposite_low (truth x) = refl
  opposite_low (num x) = refl
  opposite_low (text x) = refl
  opposite_low (list xs) = refl
  opposite_low (dict xs) = refl
  opposite_low (fun x c) = refl
  opposite_low (ref x) = refl

  pub count_low : (vs : Vals N) → count (low_vals spell tag vs) ≡ count vs
  count_low no_vals = refl
  count_low (val v vs) = ap suc (count_low vs)

  pair_count_low : (ps : Pairs N) → pair_count (low_pairs spell tag ps) ≡ pair_count ps
  pair_count_low no_pairs = refl
  pair_count_low (pair k v ps) = ap suc (pair_count_low ps)

  pub len_low : (v : Val N) → len (low spell tag v) ≡ lower spell tag (len v)
  len_low (list vs) = ap (λ n. Ok (num (pos n))) (count_low vs)
  len_low (dict ps) = ap (λ n. Ok (num (pos n))) (pair_count_low ps)
  len_low null = refl
  len_low (truth x) = refl
  len_low (num x) = refl
  len_low (text x) = refl
  len_low (fun x c) = refl
  len_low (ref x) = refl

  all_keys_low : (ps : Pairs N) → all_keys (low_pairs spell tag ps) ≡ low_vals spell tag (all_keys ps)
  all_keys_low no_pairs = refl
  all_keys_low (pair k v ps) = ap (val (text k)) (all_keys_low ps)

  pub keys_low : (v : Val N) → keys (low spell tag v) ≡ lower spell tag (keys v)
  keys_low (dict ps) = ap (λ us. limited (list us)) (all_keys_low ps) ∙ limited_low (list (all_keys ps))
  keys_low null = refl
  keys_low (truth x) = refl
  keys_low (num x) = refl
  keys_low (text x) = refl
  keys_low (list xs) = refl
  keys_low (fun x c) = refl
  keys_low (ref x) = refl

  found_step : (o : Ordering) (v : Val N) (a : Option (Val (List ℕ))) (b : Option (Val N)) → a ≡ option_map (low spell tag) b → match_ordering o None (Some (low spell tag v)) a
      ≡ option_map (low spell tag) (match_ordering o None (Some v) b)
  found_step Ordering.Less v a b h = refl
  found_step Ordering.Equal v a b h = refl
  found_step Ordering.Greater v a b h = h

  -- a variable, or the value at a key
  pub found_low : (k : List ℕ) (ps : Pairs N) → find k (low_pairs spell tag ps) ≡ option_map (low spell tag) (find k ps)
  found_low k no_pairs = refl
  found_low k (pair l v ps) = found_step (slice_cmp nat_cmp k l) v _ _ (found_low k ps)

  there_low : (o : Option (Val N)) → is_there (option_map (low spell tag) o) ≡ is_there o
  there_low None = refl
  there_low (Some v) = refl

  has_key_low : (ps : Pairs N) (k : Val N) → has_key (low_pairs spell tag ps) (low spell tag k) ≡ lower spell tag (has_key ps k)
  has_key_low ps (text k) = ap (λ o. Ok (truth (is_there o))) (found_low k ps) ∙ ap (λ b. Ok (truth b)) (there_low (find k ps))
  has_key_low ps null = refl
  has_key_low ps (truth x) = refl
  has_key_low ps (num x) = refl
  has_key_low ps (list xs) = refl
  has_key_low ps (dict xs) = refl
  has_key_low ps (fun x c) = refl
  has_key_low ps (ref x) = refl

  pub has_low : (v k : Val N) → has (low spell tag v) (low spell tag k) ≡ lower spell tag (has v k)
  has_low (dict ps) k = has_key_low ps k
  has_low null k = refl
  has_low (truth x) k = refl
  has_low (num x) k = refl
  has_low (text x) k = refl
  has_low (list xs) k = refl
  has_low (fun x c) k = refl
  has_low (ref x) k = refl

  numbers_low : (n : ℕ) (a : ℤ) → numbers n a ≡ low_vals spell tag (numbers n a)
  numbers_low zero a = refl
  numbers_low (suc n) a = ap (val (num a)) (numbers_low n (a +ℤ pos 1))

  range_if_low : (b : Bool) (n : ℕ) (a : ℤ) → range_if b n a ≡ lower spell tag (range_if b n a)
  range_if_low true n a = refl
  range_if_low false n a = ap (λ us. Ok (list us)) (numbers_low n a)

  range_to_low : (a : ℤ) (v : Val N) → range_to a (low spell tag v) ≡ lower spell tag (range_to a v)
  range_to_low a (num b) = range_if_low (nat_lt 262143 (span (b -ℤ a))) (span (b -ℤ a)) a
  range_to_low a null = refl
  range_to_low a (truth x) = refl
  range_to_low a (text x) = refl
  range_to_low a (list xs) = refl
  range_to_low a (dict xs) = refl
  range_to_low a (fun x c) = refl
  range_to_low a (ref x) = refl

  pub range_low : (a b : Val N) → range (low spell tag a) (low spell tag b) ≡ lower spell tag (range a b)
  range_low (num a) b = range_to_low a b
  range_low null b = refl
  range_low (truth x) b = refl
  range_low (text x) b = refl
  range_low (list xs) b = refl
  range_low (dict xs) b = refl
  range_low (fun x c) b = refl
  range_low (ref x) b = refl

  with_key_low : (k v : Val N) (ps : Pairs N) (go : Pairs (List ℕ) → Answer (List ℕ)) (to : Pairs N → Answer N) → ((qs : Pairs N) → go (low_pairs spell tag qs) ≡ lower spell tag (to qs))
      → with_key (low spell tag k) (low spell tag v) (low_pairs spell tag ps) go ≡ lower spell tag (with_key k v ps to)
  with_key_low (text k) v ps go to e = ap go (sym (put_low k v ps)) ∙ e (put k v ps)
  with_key_low null v ps go to e = refl
  with_key_low (truth x) v ps go to e = refl
  with_key_low (num x) v ps go to e = refl
  with_key_low (list xs) v ps go to e = refl
  with_key_low (dict xs) v ps go to e = refl
  with_key_low (fun x c) v ps go to e = refl
  with_key_low (ref x) v ps go to e = refl

  pub dict_from_low : (vs : List (Val N)) (ps : Pairs N) → dict_from (map (low spell tag) vs) (low_pairs spell tag ps) ≡ lower spell tag (dict_from vs ps)
  dict_from_low [] ps = limited_low (dict ps)
  dict_from_low (k ∷ []) ps = refl
  dict_from_low (k ∷ v ∷ vs) ps = with_key_low k v ps _ _ (λ qs. dict_from_low vs qs)

  -- ---- lists, variables and references

  pub vals_of_low : (vs : List (Val N)) → vals_of (map (low spell tag) vs) ≡ low_vals spell tag (vals_of vs)
  vals_of_low [] = refl
  vals_of_low (v ∷ vs) = ap (val (low spell tag v)) (vals_of_low vs)

  pub refs_to_low : (ds : List (Desc N)) → refs_to (map (low_ref spell tag) ds) ≡ low_vals spell tag (refs_to ds)
  refs_to_low [] = refl
  refs_to_low (d ∷ ds) = ap (val (ref (low_ref spell tag d))) (refs_to_low ds)

  pub bind_low : (xs : List (List ℕ)) (vs : Vals N) (ps : Pairs N) → bind xs (low_vals spell tag vs) (low_pairs spell tag ps) ≡ low_pairs spell tag (bind xs vs ps)
  bind_low [] vs ps = refl
  bind_low (x ∷ xs) no_vals ps = refl
  bind_low (x ∷ xs) (val v vs) ps = ap (bind xs (low_vals spell tag vs)) (sym (put_low x v ps)) ∙ bind_low xs vs (put x v ps)

  pub left_low : (k : ℕ) (vs : Vals N) → left k (low_vals spell tag vs) ≡ low_vals spell tag (left k vs)
  left_low zero vs = refl
  left_low (suc k) no_vals = refl
  left_low (suc k) (val v vs) = left_low k vs

-- where no description has a name inside, its name is that of the lowered description
pub tag_low : (tag : Desc (List ℕ) → List ℕ) (d : Desc ⊥) → tag (low_desc (λ n. absurd n) tag d) ≡ name (λ n. absurd n) tag d
tag_low tag (call f c vs) = refl
tag_low tag (out x v n i) = refl
tag_low tag (input k) = refl
tag_low tag (known n) = absurd n

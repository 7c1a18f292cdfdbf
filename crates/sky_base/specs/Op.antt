-- The operators on values.
use Rattle.std.specs.Prelude.{ℕ, zero, suc, ◌^◌, ℤ, pos, negsuc, ◌+ℤ◌, ◌-ℤ◌, ◌*ℤ◌, List, [], ◌∷◌, ◌++◌, length, Bool, true, false, not, ◌&&◌, Result}
use Rattle.std.specs.Prelude.{Ok, Err, Option, Some, None, nat_lt, int_div, int_rem}
use Rattle.std.specs.Option.{option_map}
use Rattle.std.specs.Ordering.{nat_cmp, int_cmp, match_ordering, is_lt, is_le, is_gt, is_ge}
use Rattle.std.specs.declared.cmp.Ordering.{Ordering}
use Rattle.std.specs.Cmp.Lexicographic.{slice_cmp}
use Rattle.sky_base.specs.Val.{Val, Vals, Pairs, truth, num, text, list, dict, no_vals, val, no_pairs, pair, size, depth, most_depth, most_size}
use Rattle.sky_base.specs.Val.{count, pair_count, add_val, is_plain, same_val}
use Rattle.sky_base.specs.declared.fault.FaultKind.{FaultKind}

abbrev pub Answer : Type 0 → Type 0
Answer N = Result (Val N) FaultKind

-- whether a number has 64 signed bits
abbrev pub fits : ℤ → Bool
fits (pos n) = nat_lt n (2 ^ 63)
fits (negsuc n) = nat_lt n (2 ^ 63)

module _ {N : Type 0} where
  -- the value, or Overflow
  abbrev pub if_fits : Bool → ℤ → Answer N
  if_fits true z = Ok (num z)
  if_fits false z = Err FaultKind.Overflow

  abbrev pub checked : ℤ → Answer N
  checked z = if_fits (fits z) z

  -- the value, unless it is too deep or too large
  abbrev pub unless : Bool → Bool → (Val N) → Answer N
  unless true large v = Err FaultKind.TooDeep
  unless false true v = Err FaultKind.TooLarge
  unless false false v = Ok v

  -- the value, within the limits of depth and size
  abbrev pub limited : (Val N) → Answer N
  limited v = unless (nat_lt most_depth (depth v)) (nat_lt most_size (size v)) v

  abbrev pub join : (Vals N) → (Vals N) → (Vals N)
  join no_vals ws = ws
  join (val v vs) ws = val v (join vs ws)

  abbrev pub plus_num : ℤ → (Val N) → Answer N
  plus_num a (num b) = checked (a +ℤ b)
  plus_num a _ = Err FaultKind.BadKind

  abbrev pub plus_text : List ℕ → (Val N) → Answer N
  plus_text s (text t) = limited (text (s ++ t))
  plus_text s _ = Err FaultKind.BadKind

  abbrev pub plus_list : (Vals N) → (Val N) → Answer N
  plus_list a (list b) = limited (list (join a b))
  plus_list a _ = Err FaultKind.BadKind

  abbrev pub plus : (Val N) → (Val N) → Answer N
  plus (num a) v = plus_num a v
  plus (text s) v = plus_text s v
  plus (list a) v = plus_list a v
  plus _ v = Err FaultKind.BadKind

  abbrev pub minus_num : ℤ → (Val N) → Answer N
  minus_num a (num b) = checked (a -ℤ b)
  minus_num a _ = Err FaultKind.BadKind

  abbrev pub minus : (Val N) → (Val N) → Answer N
  minus (num a) v = minus_num a v
  minus _ v = Err FaultKind.BadKind

  abbrev pub times_num : ℤ → (Val N) → Answer N
  times_num a (num b) = checked (a *ℤ b)
  times_num a _ = Err FaultKind.BadKind

  abbrev pub times : (Val N) → (Val N) → Answer N
  times (num a) v = times_num a v
  times _ v = Err FaultKind.BadKind

  -- the element at a place
  abbrev pub val_at : (Vals N) → ℕ → Option (Val N)
  val_at no_vals i = None
  val_at (val v vs) zero = Some v
  val_at (val v vs) (suc i) = val_at vs i

  abbrev pub find : List ℕ → (Pairs N) → Option (Val N)
  find k no_pairs = None
  find k (pair l v ps) = match_ordering (slice_cmp nat_cmp k l) None (Some v) (find k ps)

  -- the pairs with v at k
  abbrev pub put : List ℕ → (Val N) → (Pairs N) → (Pairs N)
  put k v no_pairs = pair k v no_pairs
  put k v (pair l w ps) = match_ordering (slice_cmp nat_cmp k l) (pair k v (pair l w ps)) (pair l v ps) (pair l w (put k v ps))

  abbrev pub or_else : Option (Val N) → FaultKind → Answer N
  or_else None k = Err k
  or_else (Some v) k = Ok v

  abbrev pub index_list : (Vals N) → (Val N) → Answer N
  index_list vs (num (pos i)) = or_else (val_at vs i) FaultKind.NoIndex
  index_list vs (num (negsuc i)) = Err FaultKind.NoIndex
  index_list vs _ = Err FaultKind.BadKind

  abbrev pub index_dict : (Pairs N) → (Val N) → Answer N
  index_dict ps (text k) = or_else (find k ps) FaultKind.NoKey
  index_dict ps _ = Err FaultKind.BadKind

  abbrev pub index : (Val N) → (Val N) → Answer N
  index (list vs) i = index_list vs i
  index (dict ps) i = index_dict ps i
  index _ i = Err FaultKind.BadKind

  -- the list with e at a place, if it has that place
  abbrev pub put_val : (Vals N) → ℕ → (Val N) → Option (Vals N)
  put_val no_vals i e = None
  put_val (val v vs) zero e = Some (val e vs)
  put_val (val v vs) (suc i) e = option_map (val v) (put_val vs i e)

  abbrev pub limited_list : Option (Vals N) → Answer N
  limited_list None = Err FaultKind.NoIndex
  limited_list (Some vs) = limited (list vs)

  abbrev pub set_list : (Vals N) → (Val N) → (Val N) → Answer N
  set_list vs (num (pos i)) e = limited_list (put_val vs i e)
  set_list vs (num (negsuc i)) e = Err FaultKind.NoIndex
  set_list vs _ e = Err FaultKind.BadKind

  abbrev pub set_dict : (Pairs N) → (Val N) → (Val N) → Answer N
  set_dict ps (text k) e = limited (dict (put k e ps))
  set_dict ps _ e = Err FaultKind.BadKind

  abbrev pub set_at : (Val N) → (Val N) → (Val N) → Answer N
  set_at (list vs) i e = set_list vs i e
  set_at (dict ps) i e = set_dict ps i e
  set_at _ i e = Err FaultKind.BadKind

  -- the list with e as a new last element
  abbrev pub append : (Val N) → (Val N) → Answer N
  append (list vs) e = limited (list (add_val vs e))
  append _ e = Err FaultKind.BadKind

  -- the quotient towards zero; by zero it is DivZero, and the least number by -1 doesn't fit
  abbrev pub over_num : ℤ → ℤ → Answer N
  over_num a (pos zero) = Err FaultKind.DivZero
  over_num a (pos (suc b)) = checked (int_div a (pos (suc b)))
  over_num a (negsuc b) = checked (int_div a (negsuc b))

  abbrev pub over_by : ℤ → (Val N) → Answer N
  over_by a (num b) = over_num a b
  over_by a _ = Err FaultKind.BadKind

  abbrev pub over : (Val N) → (Val N) → Answer N
  over (num a) v = over_by a v
  over _ v = Err FaultKind.BadKind

  -- what is left by that quotient, with the sign of the left number
  abbrev pub rest_num : ℤ → ℤ → Answer N
  rest_num a (pos zero) = Err FaultKind.DivZero
  rest_num a (pos (suc b)) = Ok (num (int_rem a (pos (suc b))))
  rest_num a (negsuc b) = Ok (num (int_rem a (negsuc b)))

  abbrev pub rest_by : ℤ → (Val N) → Answer N
  rest_by a (num b) = rest_num a b
  rest_by a _ = Err FaultKind.BadKind

  abbrev pub rest : (Val N) → (Val N) → Answer N
  rest (num a) v = rest_by a v
  rest _ v = Err FaultKind.BadKind

-- how many numbers there are from 0 up to, and without, one
abbrev pub span : ℤ → ℕ
span (pos n) = n
span (negsuc n) = 0

-- how two values are compared
pub data Order : Type 0 where
  eq : Order
  ne : Order
  lt : Order
  le : Order
  gt : Order
  ge : Order

module _ {N : Type 0} where
  abbrev pub equal_if : Bool → Bool → Answer N
  equal_if true same = Ok (truth same)
  equal_if false same = Err FaultKind.BadKind

  -- whether two values are equal, neither of which holds a function or a reference
  abbrev pub equal : (Val N) → (Val N) → Answer N
  equal a b = equal_if (is_plain a && is_plain b) (same_val (λ x y. false) a b)

  abbrev pub unequal : (Val N) → (Val N) → Answer N
  unequal a b = equal_if (is_plain a && is_plain b) (not (same_val (λ x y. false) a b))

  abbrev pub order_num : (Ordering → Bool) → ℤ → (Val N) → Answer N
  order_num t a (num b) = Ok (truth (t (int_cmp a b)))
  order_num t a _ = Err FaultKind.BadKind

  abbrev pub order_text : (Ordering → Bool) → List ℕ → (Val N) → Answer N
  order_text t a (text b) = Ok (truth (t (slice_cmp nat_cmp a b)))
  order_text t a _ = Err FaultKind.BadKind

  -- two numbers, or two texts by their bytes
  abbrev pub ordered : (Ordering → Bool) → (Val N) → (Val N) → Answer N
  ordered t (num a) v = order_num t a v
  ordered t (text a) v = order_text t a v
  ordered t _ v = Err FaultKind.BadKind

  abbrev pub compare : Order → (Val N) → (Val N) → Answer N
  compare Order.eq a b = equal a b
  compare Order.ne a b = unequal a b
  compare Order.lt a b = ordered is_lt a b
  compare Order.le a b = ordered is_le a b
  compare Order.gt a b = ordered is_gt a b
  compare Order.ge a b = ordered is_ge a b

  -- `-v`, as 0 minus a number
  abbrev pub negated : (Val N) → Answer N
  negated (num z) = checked (pos 0 -ℤ z)
  negated _ = Err FaultKind.BadKind

  -- `!v`
  abbrev pub opposite : (Val N) → Answer N
  opposite (truth b) = Ok (truth (not b))
  opposite _ = Err FaultKind.BadKind

  -- `len(v)`
  abbrev pub len : (Val N) → Answer N
  len (text t) = Ok (num (pos (length t)))
  len (list vs) = Ok (num (pos (count vs)))
  len (dict ps) = Ok (num (pos (pair_count ps)))
  len _ = Err FaultKind.BadKind

  abbrev pub all_keys : (Pairs N) → (Vals N)
  all_keys no_pairs = no_vals
  all_keys (pair k v ps) = val (text k) (all_keys ps)

  -- `keys(d)`
  abbrev pub keys : (Val N) → Answer N
  keys (dict ps) = limited (list (all_keys ps))
  keys _ = Err FaultKind.BadKind

  abbrev pub is_there : Option (Val N) → Bool
  is_there None = false
  is_there (Some v) = true

  abbrev pub has_key : (Pairs N) → (Val N) → Answer N
  has_key ps (text k) = Ok (truth (is_there (find k ps)))
  has_key ps _ = Err FaultKind.BadKind

  -- `has(d, k)`
  abbrev pub has : (Val N) → (Val N) → Answer N
  has (dict ps) k = has_key ps k
  has _ k = Err FaultKind.BadKind

  -- so many numbers, from a
  abbrev pub numbers : ℕ → ℤ → (Vals N)
  numbers zero a = no_vals
  numbers (suc n) a = val (num a) (numbers n (a +ℤ pos 1))

  -- a list of so many numbers has that size and 1
  abbrev pub range_if : Bool → ℕ → ℤ → Answer N
  range_if true n a = Err FaultKind.TooLarge
  range_if false n a = Ok (list (numbers n a))

  abbrev pub range_to : ℤ → (Val N) → Answer N
  range_to a (num b) = range_if (nat_lt 262143 (span (b -ℤ a))) (span (b -ℤ a)) a
  range_to a _ = Err FaultKind.BadKind

  -- `range(a, b)`
  abbrev pub range : (Val N) → (Val N) → Answer N
  range (num a) v = range_to a v
  range _ v = Err FaultKind.BadKind

  -- `x += e` for the value of x: a list gets e as a new last element
  abbrev pub grown : (Val N) → (Val N) → Answer N
  grown (list vs) e = append (list vs) e
  grown v e = plus v e

  -- the pairs of a dictionary whose keys and values are these in turn; of equal keys the last stands
  abbrev pub with_key : (Val N) → (Val N) → Pairs N → (Pairs N → Answer N) → Answer N
  with_key (text k) v ps go = go (put k v ps)
  with_key _ v ps go = Err FaultKind.BadKind

  abbrev pub dict_from : List (Val N) → Pairs N → Answer N
  dict_from [] ps = limited (dict ps)
  dict_from (k ∷ []) ps = Err FaultKind.BadKind
  dict_from (k ∷ v ∷ vs) ps = with_key k v ps (λ qs. dict_from vs qs)

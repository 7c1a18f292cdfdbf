-- What bytes are read as has the types: whole numbers of 64 bits, UTF-8, and keys that rise.
use Rattle.std.proofs.Common.{◌≡◌, ℕ, zero, suc, ◌<◌, ◌≤◌, ◌^◌, Bool, true, false, ◌&&◌, List, length, FitsSigned, Option, Some, None, option_map}
use Rattle.std.proofs.Common.{option_and_then, IfSome, Ok, Err, IsUtf8, nat_lt, nat_le, pos, if◌then◌else◌, arith, ltb-true, leb-true, Ordering, Less}
use Rattle.std.proofs.Common.{Equal, Greater, nat_cmp}
use Rattle.std.specs.Float.{binary64, float_is_finite}
use Rattle.std.specs.Prelude.{◌==◌, drop, neg_ℤ, slice_index}
use Rattle.std.specs.Int.{w64}
use Rattle.std.specs.Ordering.{match_ordering}
use Rattle.std.specs.Cmp.Lexicographic.{slice_cmp}
use Rattle.std.specs.Str.{is_utf8}
use Rattle.std.proofs.lemmas.Bool.{cond_both}
use Rattle.std.proofs.lemmas.Str.{IsUtf8-from_is_utf8}
use Rattle.fast_float.specs.Text.{Parts, minus, scan, digits_of, nearest, with_sign}
use Rattle.json.specs.Lex.{tokens}
use Rattle.json.specs.Json as source
use Rattle.serde_json.specs.Data as json
use Rattle.serde_json.specs.Data.{Data, Items, Members, Num, no_items, item, no_members, member, unsigned, negative, float}
use Rattle.serde_json.specs.Find.{as_i64}
use Rattle.serde_json.specs.Read.{is_integer, float_of, number_from, number_of, of_json, of_items, of_members, read, max_depth}
use Rattle.sky_base.specs.KitView.{Gives}
use Rattle.sky_base.specs.Op.{Answer, put}
use Rattle.sky_base.specs.Val.{Val, Vals, Pairs, num, list, dict, val, no_pairs}
use Rattle.sky_base.specs.declared.fault.FaultKind.{FaultKind}
use Rattle.sky_base_law.specs.Typed.{Typed, TypedRead, TypedReads, ValsTyped}
use Rattle.sky_base_law.proofs.TypedOps.{PairsTyped, TypedAnswer, limited_typed, put_typed}
use Rattle.ciel_json.specs.Around.{json_around}
use Rattle.ciel_json.specs.Read.{value_of, values_of, pairs_onto, value_read, within_limits, nests_too_deep, reads}
use Rattle.sky_text.proofs.Decimal.{both}
use Rattle.ciel_name_law.proofs.JsonTokens.{JsonOk, ItemsOk, MembersOk, SomeJson, parsed_ok}

-- ---- data

abbrev NumOk : Num → Type 0
NumOk (unsigned n) = Unit {0}
NumOk (negative z) = FitsSigned w64 z
NumOk (float x) = Unit {0}

abbrev mutual
  DataOk : Data → Type 0
  DataOk json.null = Unit {0}
  DataOk (json.boolean b) = Unit {0}
  DataOk (json.number n) = NumOk n
  DataOk (json.string s) = IsUtf8 s
  DataOk (json.array ds) = AllOk ds
  DataOk (json.object ms) = KeysOk ms

  AllOk : Items → Type 0
  AllOk no_items = Unit {0}
  AllOk (item d ds) = DataOk d × AllOk ds

  KeysOk : Members → Type 0
  KeysOk no_members = Unit {0}
  KeysOk (member k d ms) = IsUtf8 k × DataOk d × KeysOk ms

put_ok : (k : List ℕ) (d : Data) (ms : Members) → IsUtf8 k → DataOk d → KeysOk ms → KeysOk (json.put k d ms)
put_ok k d no_members u h i = (u, h, tt)
put_ok k d (member l e ms) u h i = go (slice_cmp nat_cmp k l) (put_ok k d ms u h i.2)
  where
    go : (o : Ordering) → KeysOk (json.put k d ms)
        → KeysOk (match_ordering o (member k d (member l e ms)) (member l d ms) (member l e (json.put k d ms)))
    go Less j = (u, h, i)
    go Equal j = (i.0, h, i.2)
    go Greater j = (i.0, i.1, j)

-- ---- numbers

neg_fits : (n : ℕ) → n ≤ 9223372036854775808 → FitsSigned w64 (neg_ℤ (pos n))
neg_fits zero le = record { sfits = omega arith }
neg_fits (suc n) le = let lt : n < 9223372036854775808 = omega (arith, le) in record { sfits = lt }

float_ok : (sign : Bool) (p : Parts) → IfSome (float_of sign p) NumOk
float_ok sign p =
    cond_both (float_is_finite (nearest binary64 sign p)) (Some (float (nearest binary64 sign p))) None (λ o. IfSome o NumOk) (λ _. tt) (λ _. tt)

number_ok : (sign : Bool) (p : Parts) → IfSome (number_from sign p) NumOk
number_ok false p =
    cond_both (is_integer p && nat_lt (digits_of p) (2 ^ 64)) (Some (unsigned (digits_of p))) (float_of false p) (λ o. IfSome o NumOk) (λ _. tt)
    (λ _. float_ok false p)
number_ok true p =
    cond_both (is_integer p && nat_lt 0 (digits_of p) && nat_le (digits_of p) (2 ^ 63)) (Some (negative (with_sign true (digits_of p))))
    (float_of true p) (λ o. IfSome o NumOk) (λ t. neg_fits (digits_of p)
    (small (both (is_integer p && nat_lt 0 (digits_of p)) (nat_le (digits_of p) (2 ^ 63)) t).1)) (λ _. float_ok true p)
  where
    small : nat_le (digits_of p) (2 ^ 63) ≡ true → digits_of p ≤ 9223372036854775808
    small e = leb-true (digits_of p) (2 ^ 63) e

read_number_ok : (s : List ℕ) → IfSome (number_of s) NumOk
unfolding number_of
read_number_ok s =
    cond_both (slice_index s 0 == minus) (number_from true (scan (drop 1 s))) (number_from false (scan s)) (λ o. IfSome o NumOk)
    (λ _. number_ok true (scan (drop 1 s))) (λ _. number_ok false (scan s))

-- ---- from JSON to data

num_data : (o : Option Num) → IfSome o NumOk → IfSome (option_map json.number o) DataOk
num_data None h = tt
num_data (Some n) h = h

array_data : (o : Option Items) → IfSome o AllOk → IfSome (option_map json.array o) DataOk
array_data None h = tt
array_data (Some ds) h = h

object_data : (o : Option Members) → IfSome o KeysOk → IfSome (option_map json.object o) DataOk
object_data None h = tt
object_data (Some ms) h = h

item_data : (o : Option Data) (os : Option Items) → IfSome o DataOk → IfSome os AllOk → IfSome (option_and_then (λ d. option_map (item d) os) o) AllOk
item_data None os h i = tt
item_data (Some d) None h i = tt
item_data (Some d) (Some ds) h i = (h, i)

member_data : (k : List ℕ) (found : Members) (ms : source.Members) (o : Option Data) → IsUtf8 k → KeysOk found → IfSome o DataOk
    → ((more : Members) → KeysOk more → IfSome (of_members ms more) KeysOk)
    → IfSome (option_and_then (λ d. of_members ms (json.put k d found)) o) KeysOk
member_data k found ms None u f h go = tt
member_data k found ms (Some d) u f h go = go (json.put k d found) (put_ok k d found u h f)

mutual
  data_ok : (j : source.Json) → JsonOk j → IfSome (of_json j) DataOk
  data_ok source.null h = tt
  data_ok (source.boolean b) h = tt
  data_ok (source.number s) h = num_data (number_of s) (read_number_ok s)
  data_ok (source.string s) h = h
  data_ok (source.array js) h = array_data (of_items js) (datas_ok js h)
  data_ok (source.object ms) h = object_data (of_members ms no_members) (keys_ok ms no_members h tt)

  datas_ok : (js : source.Items) → ItemsOk js → IfSome (of_items js) AllOk
  datas_ok source.no_items h = tt
  datas_ok (source.item j js) h = item_data (of_json j) (of_items js) (data_ok j h.0) (datas_ok js h.1)

  keys_ok : (ms : source.Members) (found : Members) → MembersOk ms → KeysOk found → IfSome (of_members ms found) KeysOk
  keys_ok source.no_members found h f = f
  keys_ok (source.member k j ms) found h f =
      member_data k found ms (of_json j) h.0 f (data_ok j h.1) (λ more g. keys_ok ms more h.2 g)

json_data : (o : Option source.Json) → SomeJson o → IfSome (option_and_then of_json o) DataOk
json_data None h = tt
json_data (Some j) h = data_ok j h

read_ok : (b : List ℕ) → IsUtf8 b → IfSome (read b) DataOk
read_ok b u = json_data (option_and_then (λ p. source.if_last p.0 p.1) (source.value max_depth (tokens b))) (parsed_ok max_depth b u)

-- ---- from data to values

-- no name stands inside
abbrev K : ⊥ → Type 0
K n = Unit {0}

number_value : (n : Num) → NumOk n → IfSome (option_map num (as_i64 n)) (Typed {N = ⊥})
number_value (unsigned n) h =
    cond_both (nat_lt n (2 ^ 63)) (Some (pos n)) None (λ o. IfSome (option_map num o) (Typed {N = ⊥}))
    (λ t. record { sfits = ltb-true n (2 ^ 63) t }) (λ _. tt)
number_value (negative z) h = h
number_value (float x) h = tt

list_value : (o : Option (Vals ⊥)) → IfSome o (ValsTyped K) → IfSome (option_map list o) (Typed {N = ⊥})
list_value None h = tt
list_value (Some vs) h = h

dict_value : (o : Option (Pairs ⊥)) → IfSome o (PairsTyped ⊥ K) → IfSome (option_map dict o) (Typed {N = ⊥})
dict_value None h = tt
dict_value (Some ps) h = h

item_value : (o : Option (Val ⊥)) (os : Option (Vals ⊥)) → IfSome o (Typed {N = ⊥}) → IfSome os (ValsTyped K)
    → IfSome (option_and_then (λ v. option_map (val v) os) o) (ValsTyped K)
item_value None os h i = tt
item_value (Some v) None h i = tt
item_value (Some v) (Some vs) h i = (h, i)

member_value : (k : List ℕ) (ps : Pairs ⊥) (ms : Members) (o : Option (Val ⊥)) → IsUtf8 k → PairsTyped ⊥ K ps → IfSome o (Typed {N = ⊥})
    → ((qs : Pairs ⊥) → PairsTyped ⊥ K qs → IfSome (pairs_onto qs ms) (PairsTyped ⊥ K))
    → IfSome (option_and_then (λ v. pairs_onto (put k v ps) ms) o) (PairsTyped ⊥ K)
member_value k ps ms None u f h go = tt
member_value k ps ms (Some v) u f h go = go (put k v ps) (put_typed ⊥ K k v ps u h f)

mutual
  value_typed : (d : Data) → DataOk d → IfSome (value_of d) (Typed {N = ⊥})
  value_typed json.null h = tt
  value_typed (json.boolean b) h = tt
  value_typed (json.number n) h = number_value n h
  value_typed (json.string s) h = h
  value_typed (json.array ds) h = list_value (values_of ds) (values_typed ds h)
  value_typed (json.object ms) h = dict_value (pairs_onto no_pairs ms) (pairs_typed ms no_pairs h (tt, tt))

  values_typed : (ds : Items) → AllOk ds → IfSome (values_of ds) (ValsTyped K)
  values_typed no_items h = tt
  values_typed (item d ds) h = item_value (value_of d) (values_of ds) (value_typed d h.0) (values_typed ds h.1)

  pairs_typed : (ms : Members) (ps : Pairs ⊥) → KeysOk ms → PairsTyped ⊥ K ps → IfSome (pairs_onto ps ms) (PairsTyped ⊥ K)
  pairs_typed no_members ps h f = f
  pairs_typed (member k d ms) ps h f =
      member_value k ps ms (value_of d) h.0 f (value_typed d h.1) (λ qs g. pairs_typed ms qs h.2 g)

data_value : (o : Option Data) → IfSome o DataOk → IfSome (option_and_then value_of o) (Typed {N = ⊥})
data_value None h = tt
data_value (Some d) h = value_typed d h

read_value : (b : List ℕ) → IfSome (value_read b) (Typed {N = ⊥})
read_value b =
    cond_both (is_utf8 b) (option_and_then value_of (read b)) None (λ o. IfSome o (Typed {N = ⊥}))
    (λ t. data_value (read b) (read_ok b (IsUtf8-from_is_utf8 b t))) (λ _. tt)

within_typed : (o : Option (Val ⊥)) → IfSome o (Typed {N = ⊥}) → TypedAnswer ⊥ K (within_limits o)
within_typed None h = tt
within_typed (Some v) h = limited_typed ⊥ K v h

reads_typed : (b : List ℕ) → TypedAnswer ⊥ K (reads b)
reads_typed b = go (nat_lt 8388608 (length b)) (nests_too_deep b)
  where
    go : (large deep : Bool) → TypedAnswer ⊥ K (if large then Err FaultKind.TooLarge
        else (if deep then Err FaultKind.TooDeep else within_limits (value_read b)))
    go true deep = tt
    go false true = tt
    go false false = within_typed (value_read b) (read_value b)

-- what the meaning is asked of the reading of data
pub json_reads_typed : (gives : Gives) → TypedReads (json_around gives)
json_reads_typed gives b = go (reads b) (reads_typed b)
  where
    go : (r : Answer ⊥) → TypedAnswer ⊥ K r → TypedRead r
    go (Ok v) h = h
    go (Err k) h = tt

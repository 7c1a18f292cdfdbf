-- Reading and writing commute with the lowering of references: data holds none.
use Rattle.std.proofs.Common.{◌≡◌, ℕ, List, Bool, true, false, ◌&&◌, if◌then◌else◌, Option, Some, None, option_map, option_and_then, Err, ℤ, length}
use Rattle.std.proofs.Common.{nat_lt, refl, sym, ap, ap₂, ◌∙◌}
use Rattle.std.specs.Str.{is_utf8}
use Rattle.serde_json.specs.Data.{Data, Items, no_items, item, Members, no_members, member, put}
use Rattle.serde_json.specs.Data as json
use Rattle.serde_json.specs.Find.{as_i64}
use Rattle.serde_json.specs.Read.{read}
use Rattle.serde_json.specs.Written.{compact_text}
use Rattle.sky_base.specs.Val.{Val, Vals, Pairs, Desc, null, truth, num, text, list, dict, fun, ref, no_vals, val, no_pairs, pair, is_plain}
use Rattle.sky_base.specs.Val.{vals_plain, pairs_plain}
use Rattle.sky_base.specs.Op as op
use Rattle.sky_base.specs.Name.{low, low_vals, low_pairs}
use Rattle.sky_base_law.specs.Lower.{lower}
use Rattle.sky_base.specs.declared.fault.FaultKind.{FaultKind}
use Rattle.sky_base_law.proofs.Low.{limited_low, put_low}
use Rattle.ciel_json.specs.Read.{value_of, values_of, pairs_onto, value_read, within_limits, nests_too_deep, reads}
use Rattle.ciel_json.specs.Text.{json_of, items_of, members_of, text_of}

module _ {N : Type 0} (spell : N → List ℕ) (tag : Desc (List ℕ) → List ℕ) where
  -- ---- reading

  num_low : (o : Option ℤ) → option_map num o ≡ option_map (low spell tag) (option_map num o)
  num_low None = refl
  num_low (Some z) = refl

  list_low : (o : Option (Vals N))
      → option_map list (option_map (low_vals spell tag) o) ≡ option_map (low spell tag) (option_map list o)
  list_low None = refl
  list_low (Some vs) = refl

  dict_low : (o : Option (Pairs N))
      → option_map dict (option_map (low_pairs spell tag) o) ≡ option_map (low spell tag) (option_map dict o)
  dict_low None = refl
  dict_low (Some ps) = refl

  item_low : (o : Option (Val N)) (os : Option (Vals N))
      → option_and_then (λ v. option_map (val v) (option_map (low_vals spell tag) os)) (option_map (low spell tag) o)
      ≡ option_map (low_vals spell tag) (option_and_then (λ v. option_map (val v) os) o)
  item_low None os = refl
  item_low (Some v) None = refl
  item_low (Some v) (Some vs) = refl

  member_low : (k : List ℕ) (ps : Pairs N) (ms : Members) (o : Option (Val N))
      → ((qs : Pairs N) → pairs_onto (low_pairs spell tag qs) ms ≡ option_map (low_pairs spell tag) (pairs_onto qs ms))
      → option_and_then (λ v. pairs_onto (op.put k v (low_pairs spell tag ps)) ms) (option_map (low spell tag) o)
      ≡ option_map (low_pairs spell tag) (option_and_then (λ v. pairs_onto (op.put k v ps) ms) o)
  member_low k ps ms None rest = refl
  member_low k ps ms (Some v) rest =
      ap (λ qs. pairs_onto qs ms) (sym (put_low spell tag k v ps)) ∙ rest (op.put k v ps)

  mutual
    value_low : (d : Data) → value_of d ≡ option_map (low spell tag) (value_of d)
    value_low json.null = refl
    value_low (json.boolean b) = refl
    value_low (json.number n) = num_low (as_i64 n)
    value_low (json.string t) = refl
    value_low (json.array ds) = ap (option_map list) (values_low ds) ∙ list_low (values_of ds)
    value_low (json.object ms) = ap (option_map dict) (members_low no_pairs ms) ∙ dict_low (pairs_onto no_pairs ms)

    values_low : (ds : Items) → values_of ds ≡ option_map (low_vals spell tag) (values_of ds)
    values_low no_items = refl
    values_low (item d ds) =
        ap₂ (λ o os. option_and_then (λ v. option_map (val v) os) o) (value_low d) (values_low ds)
        ∙ item_low (value_of d) (values_of ds)

    members_low : (ps : Pairs N) (ms : Members)
        → pairs_onto (low_pairs spell tag ps) ms ≡ option_map (low_pairs spell tag) (pairs_onto ps ms)
    members_low ps no_members = refl
    members_low ps (member k d ms) =
        ap (option_and_then (λ v. pairs_onto (op.put k v (low_pairs spell tag ps)) ms)) (value_low d)
        ∙ member_low k ps ms (value_of d) (λ qs. members_low qs ms)

  data_low : (o : Option Data) → option_and_then value_of o ≡ option_map (low spell tag) (option_and_then value_of o)
  data_low None = refl
  data_low (Some d) = value_low d

  read_low : (b : List ℕ) → value_read b ≡ option_map (low spell tag) (value_read b)
  read_low b = go (is_utf8 b)
    where
      go : (u : Bool)
          → (if u then option_and_then value_of (read b) else None)
          ≡ option_map (low spell tag) (if u then option_and_then value_of (read b) else None)
      go true = data_low (read b)
      go false = refl

  within_low : (o : Option (Val N)) → within_limits (option_map (low spell tag) o) ≡ lower spell tag (within_limits o)
  within_low None = refl
  within_low (Some v) = limited_low spell tag v

  -- bytes are read as the same value, whatever stands for descriptions
  pub reads_low : (b : List ℕ) → reads b ≡ lower spell tag (reads b)
  reads_low b = go (nat_lt 8388608 (length b)) (nests_too_deep b)
    where
      go : (large deep : Bool)
          → (if large then Err FaultKind.TooLarge else (if deep then Err FaultKind.TooDeep else within_limits (value_read b)))
          ≡ lower spell tag (if large then Err FaultKind.TooLarge else (if deep then Err FaultKind.TooDeep else within_limits (value_read b)))
      go true deep = refl
      go false true = refl
      go false false = ap within_limits (read_low b) ∙ within_low (value_read b)

  -- ---- writing

  mutual
    plain_low : (v : Val N) → is_plain (low spell tag v) ≡ is_plain v
    plain_low null = refl
    plain_low (truth b) = refl
    plain_low (num z) = refl
    plain_low (text t) = refl
    plain_low (list vs) = vals_plain_low vs
    plain_low (dict ps) = pairs_plain_low ps
    plain_low (fun f c) = refl
    plain_low (ref d) = refl

    vals_plain_low : (vs : Vals N) → vals_plain (low_vals spell tag vs) ≡ vals_plain vs
    vals_plain_low no_vals = refl
    vals_plain_low (val v vs) = ap₂ (λ a b. a && b) (plain_low v) (vals_plain_low vs)

    pairs_plain_low : (ps : Pairs N) → pairs_plain (low_pairs spell tag ps) ≡ pairs_plain ps
    pairs_plain_low no_pairs = refl
    pairs_plain_low (pair k v ps) = ap₂ (λ a b. a && b) (plain_low v) (pairs_plain_low ps)

  mutual
    json_low : (v : Val N) → json_of (low spell tag v) ≡ json_of v
    json_low null = refl
    json_low (truth b) = refl
    json_low (num z) = refl
    json_low (text t) = refl
    json_low (list vs) = ap json.array (items_of_low vs)
    json_low (dict ps) = ap json.object (members_of_low ps no_members)
    json_low (fun f c) = refl
    json_low (ref d) = refl

    items_of_low : (vs : Vals N) → items_of (low_vals spell tag vs) ≡ items_of vs
    items_of_low no_vals = refl
    items_of_low (val v vs) = ap₂ item (json_low v) (items_of_low vs)

    members_of_low : (ps : Pairs N) (ms : Members) → members_of (low_pairs spell tag ps) ms ≡ members_of ps ms
    members_of_low no_pairs ms = refl
    members_of_low (pair k v ps) ms =
        ap (λ d. members_of (low_pairs spell tag ps) (put k d ms)) (json_low v) ∙ members_of_low ps (put k (json_of v) ms)

  -- a value is written as the same text, whatever stands for descriptions
  pub text_low : (v : Val N) → text_of (low spell tag v) ≡ text_of v
  text_low v = ap₂ (λ plain d. if plain then Some (compact_text d) else None) (plain_low v) (json_low v)

-- from whole descriptions to names, whatever the names
module _ (tag : Desc (List ℕ) → List ℕ) where
  pub reads_named : (b : List ℕ) → reads {N = List ℕ} b ≡ lower {N = ⊥} (λ n. absurd n) tag (reads {N = ⊥} b)
  reads_named b = reads_low {N = ⊥} (λ n. absurd n) tag b

  pub text_named : (v : Val ⊥) → text_of (low {N = ⊥} (λ n. absurd n) tag v) ≡ text_of v
  text_named v = text_low {N = ⊥} (λ n. absurd n) tag v

-- What stands in bytes whose length has 32 bits has such a length too, and such a number.
use Rattle.std.proofs.Common.{◌≤◌, ◌<◌, ◌+◌, ℕ, List, [], ◌∷◌, ◌++◌, length, true, false, Bool, arith}
use Rattle.std.proofs.lemmas.List.{length-append}
use Rattle.std.specs.List.{flat_map}
use Rattle.sky_base.specs.Name.{big_endian, bytes, fun_bytes, is_anonymous, name_bytes, name_bytes_if, pairs_bytes, held_name, bytes_of_text}
use Rattle.sky_base.specs.Val.{Val, Pairs, null, truth, num, text, list, dict, fun, ref, no_pairs, pair, pair_count}
use Rattle.sky_base_law.specs.Tasks.{Each}
use Rattle.sky_frozen_bytes.specs.Codes.{Counted, Fits32}

-- the length of these bytes has 32 bits
abbrev pub Short : List ℕ → Type 0
Short xs = Fits32 (length xs)

pub front_short : (xs ys : List ℕ) → Short (xs ++ ys) → Short xs
front_short xs ys h =
    let e = length-append xs ys in
    let l : length (xs ++ ys) < 4294967296 = h in
    let lt : length xs < 4294967296 = omega (arith, e, l) in
    lt

pub back_short : (xs ys : List ℕ) → Short (xs ++ ys) → Short ys
back_short xs ys h =
    let e = length-append xs ys in
    let l : length (xs ++ ys) < 4294967296 = h in
    let lt : length ys < 4294967296 = omega (arith, e, l) in
    lt

pub tail_short : (x : ℕ) (xs : List ℕ) → Short (x ∷ xs) → Short xs
tail_short x xs h =
    let l : length (x ∷ xs) < 4294967296 = h in
    let lt : length xs < 4294967296 = omega (arith, l) in
    lt

module _ {A : Type 0} (f : A → List ℕ) where
  -- things that have a byte each are no more than their bytes
  as_many : ((x : A) → 0 < length (f x)) → (xs : List A) → length xs ≤ length (flat_map f xs)
  as_many some [] = omega arith
  as_many some (x ∷ xs) =
      let e = length-append (f x) (flat_map f xs) in
      let k = as_many some xs in
      let one = some x in
      omega (arith, e, k, one)

  -- what holds of each thing of short bytes holds of each of those that have short bytes together
  pub each_short : (P : A → Type 0) (xs : List A) → Each (λ x. Short (f x) → P x) xs → Short (flat_map f xs) → Each P xs
  each_short P [] h l = tt
  each_short P (x ∷ xs) h l =
      (h.0 (front_short (f x) (flat_map f xs) l), each_short P xs h.1 (back_short (f x) (flat_map f xs) l))

  -- so it is of things behind their number
  pub counted_short : (P : A → Type 0) → ((x : A) → 0 < length (f x)) → (xs : List A) → Each (λ x. Short (f x) → P x) xs
      → Short (big_endian 4 (length xs) ++ flat_map f xs) → Counted P xs
  counted_short P some xs h l =
      let within : length (flat_map f xs) < 4294967296 = back_short (big_endian 4 (length xs)) (flat_map f xs) l in
      let many = as_many some xs in
      let few : length xs < 4294967296 = omega (arith, many, within) in
      (few, each_short P xs h within)

-- ---- what has a byte

pub name_some : (n : List ℕ) → 0 < length (name_bytes n)
name_some n = go _
  where
    go : (b : Bool) → 0 < length (name_bytes_if b n)
    go true = omega arith
    go false = omega arith

pub value_some : (v : Val (List ℕ)) → 0 < length (bytes v)
value_some null = omega arith
value_some (truth false) = omega arith
value_some (truth true) = omega arith
value_some (num z) = omega arith
value_some (text t) = omega arith
value_some (list vs) = omega arith
value_some (dict ps) = omega arith
value_some (fun f c) = go (is_anonymous f)
  where
    go : (b : Bool) → 0 < length (fun_bytes b f (big_endian 4 (pair_count c) ++ pairs_bytes c))
    go true = omega arith
    go false = omega arith
value_some (ref d) = name_some (held_name d)

-- pairs are no more than their bytes
pub pairs_many : (ps : Pairs (List ℕ)) → pair_count ps ≤ length (pairs_bytes ps)
pairs_many no_pairs = omega arith
pairs_many (pair k v ps) =
    let e = length-append (bytes_of_text k) (bytes v ++ pairs_bytes ps) in
    let g = length-append (bytes v) (pairs_bytes ps) in
    let more = pairs_many ps in
    let some = value_some v in
    omega (arith, e, g, more, some)

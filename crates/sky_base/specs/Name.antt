-- Names: the bytes of a description, one level deep, and their digest.
use Rattle.std.specs.Prelude.{ℕ, zero, suc, ◌-◌, ◌/◌, ◌%◌, ◌^◌, ℤ, pos, negsuc, List, [], ◌∷◌, ◌++◌, Bool, true, false, length, nat_eq}
use Rattle.sky_base.specs.Val.{Val, Vals, Pairs, Desc, null, truth, num, text, list, dict, fun, ref, no_vals, val, no_pairs, pair, call, out, input}
use Rattle.sky_base.specs.Val.{known, count, pair_count}

-- the k low bytes of a number, the highest first
abbrev pub big_endian : ℕ → ℕ → List ℕ
big_endian zero n = []
big_endian (suc k) n = n / 256 ^ k % 256 ∷ big_endian k n

abbrev pub bytes_of_int : ℤ → List ℕ
bytes_of_int (pos n) = big_endian 8 n
bytes_of_int (negsuc n) = big_endian 8 (2 ^ 64 - suc n)

abbrev pub bytes_of_text : List ℕ → List ℕ
bytes_of_text t = big_endian 4 (length t) ++ t

-- a value, and a description, in which each description is replaced by its name; `tag` names a description in which that was done
module _ {N : Type 0} (spell : N → List ℕ) (tag : Desc (List ℕ) → List ℕ) where
  abbrev mutual
    pub low : Val N → Val (List ℕ)
    low null = null
    low (truth b) = truth b
    low (num z) = num z
    low (text t) = text t
    low (list vs) = list (low_vals vs)
    low (dict ps) = dict (low_pairs ps)
    low (fun f c) = fun f (low_pairs c)
    low (ref d) = ref (known (name d))

    pub low_vals : Vals N → Vals (List ℕ)
    low_vals no_vals = no_vals
    low_vals (val v vs) = val (low v) (low_vals vs)

    pub low_pairs : Pairs N → Pairs (List ℕ)
    low_pairs no_pairs = no_pairs
    low_pairs (pair k v ps) = pair k (low v) (low_pairs ps)

    pub name : Desc N → List ℕ
    name (call f c vs) = tag (call f (low_pairs c) (low_vals vs))
    name (out x v n i) = tag (out x (low v) n i)
    name (input k) = tag (input k)
    name (known n) = spell n

  abbrev pub low_desc : Desc N → Desc (List ℕ)
  low_desc (call f c vs) = call f (low_pairs c) (low_vals vs)
  low_desc (out x v n i) = out x (low v) n i
  low_desc (input k) = input k
  low_desc (known n) = known (spell n)

-- ---- bytes over names

abbrev pub held_name : Desc (List ℕ) → List ℕ
held_name (known n) = n
held_name d = []

-- whether a function has a number in place of a name, `#k`: no NAME begins so
abbrev pub is_anonymous : List ℕ → Bool
is_anonymous [] = false
is_anonymous (b ∷ bs) = nat_eq b 35

-- the bytes of a function, from those of what it captured; a named one captures nothing
abbrev pub fun_bytes : Bool → List ℕ → List ℕ → List ℕ
fun_bytes false f c = 7 ∷ bytes_of_text f
fun_bytes true f c = 10 ∷ (bytes_of_text f ++ c)

abbrev pub call_bytes : Bool → List ℕ → List ℕ → List ℕ → List ℕ
call_bytes false f c vs = 67 ∷ (bytes_of_text f ++ vs)
call_bytes true f c vs = 76 ∷ (bytes_of_text f ++ (c ++ vs))

-- a name of 20 bytes, or one of 32
abbrev pub name_bytes_if : Bool → List ℕ → List ℕ
name_bytes_if true n = 8 ∷ n
name_bytes_if false n = 9 ∷ n

abbrev pub name_bytes : List ℕ → List ℕ
name_bytes n = name_bytes_if (nat_eq (length n) 20) n

abbrev mutual
  pub bytes : Val (List ℕ) → List ℕ
  bytes null = 0 ∷ []
  bytes (truth false) = 1 ∷ []
  bytes (truth true) = 2 ∷ []
  bytes (num z) = 3 ∷ bytes_of_int z
  bytes (text t) = 4 ∷ bytes_of_text t
  bytes (list vs) = 5 ∷ (big_endian 4 (count vs) ++ vals_bytes vs)
  bytes (dict ps) = 6 ∷ (big_endian 4 (pair_count ps) ++ pairs_bytes ps)
  bytes (fun f c) = fun_bytes (is_anonymous f) f (big_endian 4 (pair_count c) ++ pairs_bytes c)
  bytes (ref d) = name_bytes (held_name d)

  pub vals_bytes : Vals (List ℕ) → List ℕ
  vals_bytes no_vals = []
  vals_bytes (val v vs) = bytes v ++ vals_bytes vs

  pub pairs_bytes : Pairs (List ℕ) → List ℕ
  pairs_bytes no_pairs = []
  pairs_bytes (pair k v ps) = bytes_of_text k ++ (bytes v ++ pairs_bytes ps)

-- the canonical bytes of a description, one level deep
abbrev pub canon : Desc (List ℕ) → List ℕ
canon (call f c vs) = call_bytes (is_anonymous f) f (big_endian 4 (pair_count c) ++ pairs_bytes c) (big_endian 4 (count vs) ++ vals_bytes vs)
canon (out x v n i) = 69 ∷ (bytes_of_text x ++ (bytes v ++ (big_endian 4 n ++ big_endian 4 i)))
canon (input k) = 73 ∷ bytes_of_text k
canon (known n) = []

-- the name of a description is a digest of its canonical bytes
abbrev pub digested : (List ℕ → List ℕ) → Desc (List ℕ) → List ℕ
digested digest d = digest (canon d)

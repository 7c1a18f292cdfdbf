-- A value's bytes as a first byte, which tells its kind, and what stands behind it.
use Rattle.std.specs.Prelude.{◌≡◌, ◌≤◌, ◌<◌, ◌^◌, ℕ, List, [], ◌++◌, Bool, true, false, nat_eq, length}
use Rattle.sky_base.specs.Val.{Val, Vals, Pairs, Desc, null, truth, num, text, list, dict, fun, ref, no_pairs, pair, count, pair_count, depth, depths, size, sizes}
use Rattle.sky_base.specs.Val.{pair_depths, pair_sizes, Rising}
use Rattle.std.specs.Ordering.{nat_cmp, is_lt}
use Rattle.std.specs.Cmp.Lexicographic.{slice_cmp}
use Rattle.sky_base.specs.Name.{vals_bytes, pairs_bytes, bytes_of_int, bytes_of_text, big_endian, is_anonymous, held_name}
use Rattle.ciel_name.specs.Spelled.{Spelled, AllSpelled, PairsSpelled}

abbrev pub fun_tag : Bool → ℕ
fun_tag false = 7
fun_tag true = 10

abbrev pub ref_tag : Bool → ℕ
ref_tag true = 8
ref_tag false = 9

abbrev pub is_short : Desc (List ℕ) → Bool
is_short d = nat_eq (length (held_name d)) 20

abbrev pub tag : Val (List ℕ) → ℕ
tag null = 0
tag (truth false) = 1
tag (truth true) = 2
tag (num z) = 3
tag (text t) = 4
tag (list vs) = 5
tag (dict ps) = 6
tag (fun f c) = fun_tag (is_anonymous f)
tag (ref d) = ref_tag (is_short d)

abbrev pub fun_body : Bool → List ℕ → Pairs (List ℕ) → List ℕ
fun_body false f c = bytes_of_text f
fun_body true f c = bytes_of_text f ++ (big_endian 4 (pair_count c) ++ pairs_bytes c)

-- what stands behind the first byte
abbrev pub body : Val (List ℕ) → List ℕ
body null = []
body (truth b) = []
body (num z) = bytes_of_int z
body (text t) = bytes_of_text t
body (list vs) = big_endian 4 (count vs) ++ vals_bytes vs
body (dict ps) = big_endian 4 (pair_count ps) ++ pairs_bytes ps
body (fun f c) = fun_body (is_anonymous f) f c
body (ref d) = held_name d

-- a value of this kind and at most so many levels has its content in front
abbrev pub BodyRead : ℕ → ℕ → List ℕ → Val (List ℕ) → List ℕ → Type 0
BodyRead k left old v new = (tag v ≡ k) × ((old ≡ body v ++ new) × (Spelled v × (depth v ≤ left)))

-- no such value of at most this size has
abbrev pub NoBody : ℕ → ℕ → ℕ → List ℕ → Type 0
NoBody k left room old =
    (v : Val (List ℕ)) (rest : List ℕ) → Spelled v → depth v ≤ left → size v ≤ room → tag v ≡ k → old ≡ body v ++ rest → ⊥

-- so many values stand in front
abbrev pub ItemsRead : ℕ → ℕ → List ℕ → Vals (List ℕ) → List ℕ → Type 0
ItemsRead n left old vs new = (old ≡ vals_bytes vs ++ new) × (AllSpelled vs × ((depths vs ≤ left) × (count vs ≡ n)))

-- so many of at most this size together don't
abbrev pub NoItems : ℕ → ℕ → ℕ → List ℕ → Type 0
NoItems n left room old =
    (vs : Vals (List ℕ)) (rest : List ℕ) → AllSpelled vs → depths vs ≤ left → sizes vs ≤ room → count vs ≡ n → old ≡ vals_bytes vs ++ rest → ⊥

-- so many pairs stand in front, with keys that rise
abbrev pub PairsRead : ℕ → ℕ → List ℕ → Pairs (List ℕ) → List ℕ → Type 0
PairsRead n left old ps new = (old ≡ pairs_bytes ps ++ new) × (PairsSpelled ps × (Rising ps × ((pair_depths ps ≤ left) × (pair_count ps ≡ n))))

-- so many of at most this size together don't
abbrev pub NoPairs : ℕ → ℕ → ℕ → List ℕ → Type 0
NoPairs n left room old =
    (ps : Pairs (List ℕ)) (rest : List ℕ) → PairsSpelled ps → Rising ps → pair_depths ps ≤ left → pair_sizes ps ≤ room → pair_count ps ≡ n
    → old ≡ pairs_bytes ps ++ rest → ⊥

-- whether a key is above the last one of the pairs
abbrev pub above_from : List ℕ → Pairs (List ℕ) → List ℕ → Bool
above_from last no_pairs k = is_lt (slice_cmp nat_cmp last k)
above_from last (pair l v ps) k = above_from l ps k

abbrev pub is_above : List ℕ → Pairs (List ℕ) → Bool
is_above k no_pairs = true
is_above k (pair l v ps) = above_from l ps k

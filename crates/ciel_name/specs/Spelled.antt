-- Which values have bytes, so that each has one spelling, and which bytes are a value's.
use Rattle.std.specs.Prelude.{◌≡◌, ◌≤◌, ◌<◌, ◌^◌, ◌⊎◌, FitsSigned, ℕ, List, length, Bool, true, false, ◌++◌}
use Rattle.std.specs.Str.{IsUtf8}
use Rattle.std.specs.Int.{w64}
use Rattle.sky_base.specs.Val.{Val, Vals, Pairs, Desc, null, truth, num, text, list, dict, fun, ref, no_vals, val, no_pairs, pair, call, out, input}
use Rattle.sky_base.specs.Val.{known, count, pair_count, depth, size, Rising}
use Rattle.sky_base.specs.Kept.{Kept}
use Rattle.sky_base.specs.Name.{bytes, bytes_of_text, is_anonymous}
use Rattle.ciel_name.specs.declared.refusal.Decode.{Decode}

-- UTF-8, with a length of 32 bits
abbrev pub IsText : List ℕ → Type 0
IsText t = IsUtf8 t × (length t < 2 ^ 32)

-- a name of 20 bytes, or of 32
abbrev pub IsName : Desc (List ℕ) → Type 0
IsName (known n) = (length n ≡ 20) ⊎ (length n ≡ 32)
IsName (call f c vs) = ⊥
IsName (out x v n i) = ⊥
IsName (input k) = ⊥

-- a named function captures nothing
abbrev pub CapturesSo : Bool → Pairs (List ℕ) → Type 0
CapturesSo false c = c ≡ no_pairs
CapturesSo true c = Rising c × (pair_count c < 2 ^ 32)

-- a value that the bytes can spell: numbers of 64 bits, texts, keys that rise, counts of 32 bits, names
abbrev mutual
  pub Spelled : Val (List ℕ) → Type 0
  Spelled null = Unit {0}
  Spelled (truth b) = Unit {0}
  Spelled (num z) = FitsSigned w64 z
  Spelled (text t) = IsText t
  Spelled (list vs) = AllSpelled vs × (count vs < 2 ^ 32)
  Spelled (dict ps) = PairsSpelled ps × (Rising ps × (pair_count ps < 2 ^ 32))
  Spelled (fun f c) = IsText f × (CapturesSo (is_anonymous f) c × PairsSpelled c)
  Spelled (ref d) = IsName d

  pub AllSpelled : Vals (List ℕ) → Type 0
  AllSpelled no_vals = Unit {0}
  AllSpelled (val v vs) = Spelled v × AllSpelled vs

  pub PairsSpelled : Pairs (List ℕ) → Type 0
  PairsSpelled no_pairs = Unit {0}
  PairsSpelled (pair k v ps) = IsText k × (Spelled v × PairsSpelled ps)

-- a value that can be written and read again: it can be spelled, and keeps the limits of depth and size
pub record IsData (v : Val (List ℕ)) : Type 0 where
  pub spelled : Spelled v
  pub kept : Kept v

-- no value has these bytes
abbrev pub NoData : List ℕ → Type 0
NoData bs = (v : Val (List ℕ)) → IsData v → bytes v ≡ bs → ⊥

-- what a refusal says that isn't want of memory
abbrev pub Refuses : Decode → Type 0 → Type 0
Refuses Decode.Memory P = Unit {0}
Refuses Decode.NotValue P = P

-- ---- what stands in front of bytes

-- a value of at most so many levels stands in front
abbrev pub Read : ℕ → List ℕ → Val (List ℕ) → List ℕ → Type 0
Read left old v new = (old ≡ bytes v ++ new) × (Spelled v × (depth v ≤ left))

-- no such value of at most this size does
abbrev pub NoneRead : ℕ → ℕ → List ℕ → Type 0
NoneRead left room old = (v : Val (List ℕ)) (rest : List ℕ) → Spelled v → depth v ≤ left → size v ≤ room → old ≡ bytes v ++ rest → ⊥

abbrev pub TextRead : List ℕ → List ℕ → List ℕ → Type 0
TextRead old t new = (old ≡ bytes_of_text t ++ new) × IsText t

abbrev pub NoTextRead : List ℕ → Type 0
NoTextRead old = (t rest : List ℕ) → IsText t → old ≡ bytes_of_text t ++ rest → ⊥

-- no text of at most so many bytes does
abbrev pub NoTextWithin : ℕ → List ℕ → Type 0
NoTextWithin most old = (t rest : List ℕ) → IsText t → length t ≤ most → old ≡ bytes_of_text t ++ rest → ⊥

-- Which descriptions and objects can be read from their bytes, and which bytes are one's.
use Rattle.std.specs.Prelude.{◌≡◌, ◌<◌, ◌^◌, ℕ, List, [], ◌∷◌, ◌++◌, Bool, true, false}
use Rattle.sky_base.specs.Val.{Val, Vals, Pairs, Desc, list, dict, call, out, input, known}
use Rattle.sky_base.specs.Kept.{Kept}
use Rattle.sky_base.specs.Res.{Object}
use Rattle.sky_base.specs.declared.fault.Fault.{Fault}
use Rattle.sky_base.specs.Name.{bytes, bytes_of_text, big_endian, canon, is_anonymous}
use Rattle.ciel_name.specs.Bodies.{body}
use Rattle.ciel_name.specs.Laws.{SpelledDesc}
use Rattle.ciel_name.specs.Object.{kind_number, object_bytes}
use Rattle.ciel_name.specs.Spelled.{IsData, Spelled}

-- the values of a description keep the limits, the arguments of a call as one list and what it captured as one dictionary
abbrev pub KeptDesc : Desc (List ℕ) → Type 0
KeptDesc (call f c vs) = Kept (dict c) × Kept (list vs)
KeptDesc (out x v n i) = Kept v
KeptDesc (input k) = Unit {0}
KeptDesc (known n) = Unit {0}

-- a description that can be written and read again
pub record IsDescData (d : Desc (List ℕ)) : Type 0 where
  pub spelled : SpelledDesc d
  pub kept : KeptDesc d

-- no description has these canonical bytes
abbrev pub NoDesc : List ℕ → Type 0
NoDesc bs = (d : Desc (List ℕ)) → IsDescData d → canon d ≡ bs → ⊥

-- an object that can be written and read again: its value is data, and the place of its fault has 32 bits
abbrev pub IsObjectData : Object (List ℕ) → Type 0
IsObjectData (Object.bytes b) = Unit {0}
IsObjectData (Object.data_of v) = IsData v
IsObjectData (Object.fault f) = (f.line < 2 ^ 32) × (f.col < 2 ^ 32)

-- no object has these bytes
abbrev pub NoObject : List ℕ → Type 0
NoObject bs = (o : Object (List ℕ)) → IsObjectData o → object_bytes o ≡ bs → ⊥

-- the bytes of a fault behind the first byte of its object
abbrev pub fault_bytes : Fault → List ℕ
fault_bytes f = kind_number f.kind ∷ (big_endian 4 f.line ++ big_endian 4 f.col)

-- no fault whose place has 32 bits has these
abbrev pub NoFault : List ℕ → Type 0
NoFault bs = (f : Fault) → f.line < 2 ^ 32 → f.col < 2 ^ 32 → fault_bytes f ≡ bs → ⊥

-- ---- a description's bytes as a first byte, which tells its kind, and what stands behind it

abbrev pub call_tag : Bool → ℕ
call_tag false = 67
call_tag true = 76

abbrev pub call_rest : Bool → Pairs (List ℕ) → Vals (List ℕ) → List ℕ
call_rest false c vs = body (list vs)
call_rest true c vs = body (dict c) ++ body (list vs)

abbrev pub desc_tag : Desc (List ℕ) → ℕ
desc_tag (call f c vs) = call_tag (is_anonymous f)
desc_tag (out x v n i) = 69
desc_tag (input k) = 73
desc_tag (known n) = 0

abbrev pub desc_body : Desc (List ℕ) → List ℕ
desc_body (call f c vs) = bytes_of_text f ++ call_rest (is_anonymous f) c vs
desc_body (out x v n i) = bytes_of_text x ++ (bytes v ++ (big_endian 4 n ++ big_endian 4 i))
desc_body (input k) = bytes_of_text k
desc_body (known n) = []

-- a description of this kind has its content in front
abbrev pub DescRead : ℕ → List ℕ → Desc (List ℕ) → List ℕ → Type 0
DescRead k old d new = (desc_tag d ≡ k) × ((old ≡ desc_body d ++ new) × IsDescData d)

-- no such description has
abbrev pub NoDescBody : ℕ → List ℕ → Type 0
NoDescBody k old = (d : Desc (List ℕ)) (rest : List ℕ) → IsDescData d → desc_tag d ≡ k → old ≡ desc_body d ++ rest → ⊥

-- the content of a list that keeps the limits stands in front, and so for a dictionary
abbrev pub ContentRead : Val (List ℕ) → List ℕ → List ℕ → Type 0
ContentRead v old new = (old ≡ body v ++ new) × IsData v

abbrev pub NoList : List ℕ → Type 0
NoList old = (vs : Vals (List ℕ)) (rest : List ℕ) → IsData (list vs) → old ≡ body (list vs) ++ rest → ⊥

abbrev pub NoDict : List ℕ → Type 0
NoDict old = (c : Pairs (List ℕ)) (rest : List ℕ) → IsData (dict c) → old ≡ body (dict c) ++ rest → ⊥

-- What the header of a log tells.
use Rattle.std.specs.Prelude.{◌≡◌, ◌≤◌, ◌<◌, ◌^◌, ℕ, List, [], ◌∷◌, ◌++◌, Bool, length}
use Rattle.sky_base.specs.Name.{big_endian, bytes_of_text}
use Rattle.sky_frozen_bytes.specs.Codes.{Counted, Fits32}
use Rattle.ciel_name.specs.Spelled.{IsText}
use Rattle.ciel_log_records.specs.Records.{counted, loss_bytes, namer_byte}

-- the namer of the run, the mark of the script, and each input by its key and the mark of its bytes
abbrev pub Marks : Type 0
Marks = Bool × (List ℕ × List (List ℕ × List ℕ))

-- the number of workers, the seed, the losses, each a count of closes and a worker, and the marks
abbrev pub Head : Type 0
Head = ℕ × (ℕ × (List (ℕ × ℕ) × Marks))

abbrev pub losses : Head → List (ℕ × ℕ)
losses h = h.1.1.0

-- whether names have 20 bytes
abbrev pub short : Head → Bool
short h = h.1.1.1.0

-- ---- their bytes

abbrev pub namer_bytes : Bool → List ℕ
namer_bytes b = namer_byte b ∷ []

abbrev pub mark_bytes : List ℕ → List ℕ
mark_bytes m = m

abbrev pub input_bytes : List ℕ × List ℕ → List ℕ
input_bytes input = bytes_of_text input.0 ++ mark_bytes input.1

abbrev pub marks_bytes : Marks → List ℕ
marks_bytes m = namer_bytes m.0 ++ (mark_bytes m.1.0 ++ counted input_bytes m.1.1)

-- what stands behind the first byte
abbrev pub head_body : Head → List ℕ
head_body h = big_endian 4 h.0 ++ (big_endian 8 h.1.0 ++ (counted loss_bytes h.1.1.0 ++ marks_bytes h.1.1.1))

abbrev pub head_bytes : Head → List ℕ
head_bytes h = 72 ∷ head_body h

-- ---- which can be written and read again; a plan has at most 64 losses

abbrev pub IsLoss : ℕ × ℕ → Type 0
IsLoss loss = Fits32 loss.0 × Fits32 loss.1

abbrev pub IsPlan : List (ℕ × ℕ) → Type 0
IsPlan losses = Counted IsLoss losses × (length losses ≤ 64)

abbrev pub IsNamer : Bool → Type 0
IsNamer b = Unit {0}

abbrev pub IsMark : List ℕ → Type 0
IsMark m = length m ≡ 20

abbrev pub IsInput : List ℕ × List ℕ → Type 0
IsInput input = IsText input.0 × IsMark input.1

abbrev pub IsMarks : Marks → Type 0
IsMarks m = IsNamer m.0 × (IsMark m.1.0 × Counted IsInput m.1.1)

abbrev pub IsHead : Head → Type 0
IsHead h = Fits32 h.0 × ((h.1.0 < 2 ^ 64) × (IsPlan h.1.1.0 × IsMarks h.1.1.1))

-- no header has these bytes
abbrev pub HasNoHead : List ℕ → Type 0
HasNoHead bytes = (h : Head) → IsHead h → head_bytes h ≡ bytes → ⊥

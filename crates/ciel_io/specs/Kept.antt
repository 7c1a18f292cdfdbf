-- What kept files are told to hold, and how a call changes it.
use Rattle.std.specs.Prelude.{◌≡◌, ◌⊎◌, ◌++◌, ℕ, List, [], ◌∷◌, bytes_eq, Option, Some, IfSome, if◌then◌else◌, take}
use Rattle.ciel_io.specs.HeldFiles.{bytes_at}

-- each path that was asked, in the order of the first time, and what stands there
abbrev pub Files : Type 0
Files = List (List ℕ × List ℕ)

-- the files where these bytes stand at the path
abbrev pub with_file : Files → List ℕ → List ℕ → Files
with_file [] path bytes = (path, bytes) ∷ []
with_file (file ∷ files) path bytes =
    if bytes_eq file.0 path then (file.0, bytes) ∷ files else file ∷ with_file files path bytes

-- where it is still told, what stands at this path is such as P says of what stood there before, and no other file changed
abbrev pub Changes : Option Files → Option Files → List ℕ → (List ℕ → List ℕ → Type 0) → Type 0
Changes before now path P =
    IfSome now (λ n. (b : Files) × (before ≡ Some b)
    × ((bytes : List ℕ) × P (bytes_at b path) bytes × (n ≡ with_file b path bytes)))

-- a piece, or a prefix of it, stands behind what was there
abbrev pub Appended : List ℕ → List ℕ → List ℕ → Type 0
Appended piece old new = new ≡ old ++ piece

abbrev pub AppendedPart : List ℕ → List ℕ → List ℕ → Type 0
AppendedPart piece old new = (k : ℕ) × (new ≡ old ++ take k piece)

-- the piece stands there; what was there does, or a prefix of the piece
abbrev pub Replaced : List ℕ → List ℕ → List ℕ → Type 0
Replaced piece old new = new ≡ piece

abbrev pub ReplacedPart : List ℕ → List ℕ → List ℕ → Type 0
ReplacedPart piece old new = (new ≡ old) ⊎ ((k : ℕ) × (new ≡ take k piece))

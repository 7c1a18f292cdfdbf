-- What reading files comes to: one, and the inputs of a line one after the other.
use Rattle.std.specs.Prelude.{◌≡◌, ◌≤◌, ℕ, List, [], ◌∷◌, ◌+◌, ◌++◌, Option, Some, IfSome, Result, Ok, Err, Contains, length, map, slice_get, take}
use Rattle.ciel_io.specs.Tells.{Tells, TellsPart}
use Rattle.ciel_run_load.specs.Line.{Input, path_in}
use Rattle.ciel_run_load.specs.Found.{HoldAll, IsFirstOver, PassesIfTold, input_limit}
use Rattle.ciel_run_load.specs.declared.read.Unread.{Unread}

-- why the file at a path wasn't read, which may have so many bytes
abbrev pub UnreadSo : (List ℕ → Option (List ℕ)) → List ℕ → ℕ → Type 0 → Unread → Type 0
UnreadSo content path most risen (Unread.Failed at) = (at ≡ path) × risen
UnreadSo content path most risen (Unread.TooLong at n) = (at ≡ path) × (n ≡ most) × PassesIfTold (content path) most
UnreadSo content path most risen Unread.Memory = Unit {0}

-- an input was read, which has a name and a path: its bytes are those that stand at the path, where files tell them, and not too many
abbrev pub ReadSo : (List ℕ → Option (List ℕ)) → List ℕ × List ℕ → Input → Type 0
ReadSo content i b = (b.0 ≡ i.0) × IfSome (content i.1) (λ file. b.1 ≡ file) × (length b.1 ≤ input_limit)

-- and so were all
abbrev pub ReadAll : (List ℕ → Option (List ℕ)) → List (List ℕ × List ℕ) → List Input → Type 0
ReadAll content [] [] = Unit {0}
ReadAll content (i ∷ is) (b ∷ bs) = ReadSo content i b × ReadAll content is bs
ReadAll content [] (b ∷ bs) = ⊥
ReadAll content (i ∷ is) [] = ⊥

-- they were read behind those that had been
abbrev pub ReadOn : (List ℕ → Option (List ℕ)) → List (List ℕ × List ℕ) → List Input → List Input → Type 0
ReadOn content is before now = (more : List Input) × ReadAll content is more × (now ≡ before ++ more)

-- why they weren't all read: the one at a path failed, or is too long, and where files tell them all it is the first such
abbrev pub UnreadOf : (List ℕ → Option (List ℕ)) → List (List ℕ × List ℕ) → Type 0 → Unread → Type 0
UnreadOf content is risen (Unread.Failed at) = Contains (map path_in is) at × risen
UnreadOf content is risen (Unread.TooLong at n) =
    Contains (map path_in is) at × (n ≡ input_limit) × PassesIfTold (content at) input_limit
    × ((bs : List Input) → HoldAll content is bs → IsFirstOver is bs at)
UnreadOf content is risen Unread.Memory = Unit {0}

-- a path of a line is the last one asked
abbrev pub AsksUpTo : List ℕ → List (List ℕ) → Option (List (List ℕ)) → Option (List (List ℕ)) → Type 0
AsksUpTo path paths before now = (i : ℕ) × (slice_get paths i ≡ Some path) × Tells before now (take (i + 1) paths)

-- where the paths asked are told, they grew by all of these, or by those up to the one that wasn't read, or for want of memory by some of
-- the first
abbrev pub AsksEach : {A : Type 0} → Result A Unread → List (List ℕ) → Option (List (List ℕ)) → Option (List (List ℕ)) → Type 0
AsksEach (Ok a) paths before now = Tells before now paths
AsksEach (Err (Unread.Failed path)) paths before now = AsksUpTo path paths before now
AsksEach (Err (Unread.TooLong path at)) paths before now = AsksUpTo path paths before now
AsksEach (Err Unread.Memory) paths before now = TellsPart before now paths

-- ---- in which order

-- each of these inputs has no more bytes than the limit, where files tell it
abbrev pub FitIfTold : (List ℕ → Option (List ℕ)) → List (List ℕ × List ℕ) → Type 0
FitIfTold content [] = Unit {0}
FitIfTold content (i ∷ is) = IfSome (content i.1) (λ file. length file ≤ input_limit) × FitIfTold content is

-- an input with this path is the last one asked, and each before it fits
abbrev pub StopsIn : (List ℕ → Option (List ℕ)) → List (List ℕ × List ℕ) → List ℕ → Option (List (List ℕ)) → Option (List (List ℕ)) → Type 0
StopsIn content is path before now =
    (k : ℕ) × (slice_get (map path_in is) k ≡ Some path) × FitIfTold content (take k is) × Tells before now (take (k + 1) (map path_in is))

-- so it is where inputs weren't read, but for want of memory
abbrev pub StopsSo : (List ℕ → Option (List ℕ)) → List (List ℕ × List ℕ) → Option (List (List ℕ)) → Option (List (List ℕ)) → Unread → Type 0
StopsSo content is before now (Unread.Failed path) = StopsIn content is path before now
StopsSo content is before now (Unread.TooLong path at) = StopsIn content is path before now
StopsSo content is before now Unread.Memory = Unit {0}

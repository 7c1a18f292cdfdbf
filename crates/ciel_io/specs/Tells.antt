-- Lists that an object tells, as the bytes written to it, until it may stop to tell them.
use Rattle.std.specs.Prelude.{◌≡◌, ◌++◌, ℕ, List, Option, Some, IfSome, take}

-- where the list is still told, it was told before, and grew by exactly this piece
abbrev pub Tells : {A : Type 0} → Option (List A) → Option (List A) → List A → Type 0
Tells {A} before now piece = IfSome now (λ n. (b : List A) × (before ≡ Some b) × (n ≡ b ++ piece))

-- where the list is still told, it grew by a prefix of this piece
abbrev pub TellsPart : {A : Type 0} → Option (List A) → Option (List A) → List A → Type 0
TellsPart before now piece = (n : ℕ) × Tells before now (take n piece)

-- where the list is still told, it is as it was
abbrev pub TellsNothing : {A : Type 0} → Option (List A) → Option (List A) → Type 0
TellsNothing before now = IfSome now (λ n. before ≡ Some n)

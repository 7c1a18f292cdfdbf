-- What the answers of a read say.
use Rattle.std.specs.Prelude.{ℕ, List, [], ◌∷◌, Option, Result, Ok, Err, ⊤}
use Rattle.ciel_io.specs.declared.files.FileRefusal.{FileRefusal}
use Rattle.ciel_io.specs.declared.files.FileRefusal.TheVariants.{Failed, TooLong, Memory}
use Rattle.ciel_io.specs.Tells.{Tells, TellsNothing}

-- the fact, of the limit that a too long file was refused with
abbrev pub IfTooLong : FileRefusal → (ℕ → Type 0) → Type 0
IfTooLong (TooLong limit) P = P limit
IfTooLong Failed P = ⊤
IfTooLong Memory P = ⊤

-- where the paths asked are still told, they grew by this one, but stayed for want of memory
abbrev pub Asks : {A : Type 0} → Option (List (List ℕ)) → Option (List (List ℕ)) → List ℕ
    → Result A FileRefusal → Type 0
Asks before now path (Ok _) = Tells before now (path ∷ [])
Asks before now path (Err (TooLong _)) = Tells before now (path ∷ [])
Asks before now path (Err Failed) = Tells before now (path ∷ [])
Asks before now path (Err Memory) = TellsNothing before now

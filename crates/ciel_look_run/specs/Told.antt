-- The status of each end, and the one line that tells of it.
use Rattle.std.specs.Prelude.{ℕ, List, [], ◌∷◌, codes, decimal}
use Rattle.std.specs.List.{concat}
use Rattle.ciel_look_run.specs.declared.ends.Why.{Why}

-- the status of the process
abbrev pub status_of : Why → ℕ
status_of Why.Done = 0
status_of Why.Usage = 1
status_of (Why.NotLog path at) = 2
status_of (Why.NoTask digits) = 3
status_of (Why.ReadFault path) = 8
status_of Why.WriteFault = 9
status_of Why.Memory = 10
status_of (Why.TooLong path) = 11

-- the message with its line feed; there is none where what was asked was written
abbrev pub message_of : Why → List ℕ
message_of Why.Done = []
message_of Why.Usage = concat (codes "look: usage: look LOG [--why NAME | --svg]\n" ∷ [])
message_of (Why.ReadFault path) = concat (codes "look: read fault " ∷ path ∷ codes "\n" ∷ [])
message_of (Why.TooLong path) = concat (codes "look: too long " ∷ path ∷ codes " 268435456\n" ∷ [])
message_of (Why.NotLog path at) = concat (codes "look: not a log " ∷ path ∷ codes " at byte " ∷ decimal at ∷ codes "\n" ∷ [])
message_of (Why.NoTask digits) = concat (codes "look: no task " ∷ digits ∷ codes "\n" ∷ [])
message_of Why.WriteFault = concat (codes "look: write fault\n" ∷ [])
message_of Why.Memory = concat (codes "look: no memory\n" ∷ [])

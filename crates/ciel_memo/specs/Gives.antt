-- What a kit gives that answers from entries.
use Rattle.std.specs.Prelude.{ℕ, List, [], Bool, true, false, not, Option, Some, None, Result, Ok, Err}
use Rattle.sky_base.specs.KitView.{Gives}
use Rattle.sky_base.specs.Val.{null}
use Rattle.sky_base.specs.declared.fault.FaultKind.{FaultKind}
use Rattle.ciel_memo_file.specs.Entries.{Entry, made_for}

abbrev pub is_unknown : Result (List (List ℕ)) FaultKind → Bool
is_unknown (Err FaultKind.BadExec) = true
is_unknown _ = false

-- whether there is an executor of this name: one that isn't known is refused as such before anything else of it is looked at
abbrev pub knows : Gives → List ℕ → Bool
knows g x = not (is_unknown (g x null [] 0))

abbrev pub unless_made : Option (List (List ℕ)) → Bool → Result (List (List ℕ)) FaultKind → Result (List (List ℕ)) FaultKind
unless_made None known given = given
unless_made (Some made) true given = Ok made
unless_made (Some made) false given = given

-- what was made for the key, where an entry has it and there is such an executor; else what is given
abbrev pub memo_gives : Gives → List Entry → Gives
memo_gives g es x args inputs n = unless_made (made_for es x args inputs n) (knows g x) (g x args inputs n)

-- Inputs that are put at the end of those that were put before.
use Rattle.std.specs.Prelude.{◌≡◌, ◌++◌, ℕ, List, Option, Some, None, Result, Ok, Err}
use Rattle.sky_base.specs.declared.fault.Fault.{Fault}

-- these behind the others, or a fault
abbrev pub behind : List (List ℕ) → Result (List (List ℕ)) Fault → Result (List (List ℕ)) Fault
behind front (Err f) = Err f
behind front (Ok bs) = Ok (front ++ bs)

-- all are put, or there is a fault
abbrev pub PutsSo : Option Fault → List (List ℕ) → Result (List (List ℕ)) Fault → Type 0
PutsSo None after r = r ≡ Ok after
PutsSo (Some f) after r = r ≡ Err f

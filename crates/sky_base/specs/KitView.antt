-- What a kit answers.
use Rattle.std.specs.Prelude.{◌≡◌, ℕ, List, Result, Ok, Err, Vec}
use Rattle.std.specs.declared.alloc.Global.{Global}
use Rattle.sky_base.specs.Val.{Val}
use Rattle.sky_base.specs.declared.fault.FaultKind.{FaultKind}

abbrev pub Gives : Type 0
Gives = List ℕ → Val (List ℕ) → List (List ℕ) → ℕ → Result (List (List ℕ)) FaultKind

abbrev pub RunsSo : Result (Vec (List ℕ) Global) FaultKind → Result (List (List ℕ)) FaultKind → Type 0
RunsSo (Ok v) r = r ≡ Ok v.items
RunsSo (Err k) r = r ≡ Err k

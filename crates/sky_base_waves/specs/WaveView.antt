-- What the code of a wave answers.
use Rattle.std.specs.Prelude.{◌≡◌, List, ℕ, Result, Ok, Err}
use Rattle.sky_base.specs.Val.{Val, Vals, Pairs}
use Rattle.sky_base.specs.View.{view}
use Rattle.sky_base.specs.declared.value.Value.{Value}
use Rattle.sky_base.specs.declared.fault.Fault.{Fault}
use Rattle.sky_base.specs.See.{Answered}
use Rattle.sky_base_waves.specs.Wave as wave
use Rattle.sky_base_waves.specs.declared.wave.Turned.{Turned}

abbrev pub FilledBy : Result Value Fault → Result (Val (List ℕ)) Fault → Type 0
FilledBy (Ok v) r = r ≡ Ok (view v)
FilledBy (Err f) r = r ≡ Err f

abbrev pub ValsFilledBy : Result (Vals (List ℕ)) Fault → Result (Vals (List ℕ)) Fault → Type 0
ValsFilledBy s r = r ≡ s

abbrev pub PairsFilledBy : Result (Pairs (List ℕ)) Fault → Result (Pairs (List ℕ)) Fault → Type 0
PairsFilledBy s r = r ≡ s

-- the answer, where it is one
abbrev pub EndsSo : Turned → Answered → Type 0
EndsSo (Turned.Text b) a = a ≡ Answered.bytes b
EndsSo (Turned.Fault f) a = a ≡ Answered.fault f
EndsSo (Turned.Next v) a = ⊥

abbrev pub TurnsSo : Turned → wave.Turned → Type 0
TurnsSo (Turned.Text b) t = t ≡ wave.Turned.ends (Answered.bytes b)
TurnsSo (Turned.Fault f) t = t ≡ wave.Turned.ends (Answered.fault f)
TurnsSo (Turned.Next v) t = t ≡ wave.Turned.next (view v)

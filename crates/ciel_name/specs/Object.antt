-- The bytes of objects.
use Rattle.std.specs.Prelude.{ℕ, List, [], ◌∷◌, ◌++◌}
use Rattle.sky_base.specs.Res.{Object}
use Rattle.sky_base.specs.Name.{bytes, big_endian}
use Rattle.sky_base.specs.declared.fault.FaultKind.{FaultKind}

-- a kind's place among the kinds, from 0
abbrev pub kind_number : FaultKind → ℕ
kind_number FaultKind.Unknown = 0
kind_number FaultKind.BadKind = 1
kind_number FaultKind.Overflow = 2
kind_number FaultKind.DivZero = 3
kind_number FaultKind.NoIndex = 4
kind_number FaultKind.NoKey = 5
kind_number FaultKind.TooLarge = 6
kind_number FaultKind.TooDeep = 7
kind_number FaultKind.TooLong = 8
kind_number FaultKind.NotData = 9
kind_number FaultKind.NotText = 10
kind_number FaultKind.BadCount = 11
kind_number FaultKind.BadExec = 12
kind_number FaultKind.BadLine = 13
kind_number FaultKind.WrongCount = 14

abbrev pub object_bytes : Object (List ℕ) → List ℕ
object_bytes (Object.bytes b) = 66 ∷ b
object_bytes (Object.data_of v) = 68 ∷ bytes v
object_bytes (Object.fault f) = 70 ∷ kind_number f.kind ∷ (big_endian 4 f.line ++ big_endian 4 f.col)

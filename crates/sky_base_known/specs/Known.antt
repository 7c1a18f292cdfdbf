-- Known objects.
use Rattle.std.specs.Prelude.{◌≡◌, ℕ, zero, suc, List, [], ◌∷◌, Option, Some, None, refl}
use Rattle.std.proofs.Common.{sym, ap, ◌∙◌}
use Rattle.std.specs.Coded.{Coded, coded_list, coded_option}
use base.Stored.{Gv, gnil, gnum, gcons}
use Rattle.sky_base.specs.Res.{Object}
use Rattle.sky_base.specs.Kept.{Kept}
use Rattle.sky_base.specs.Code.{bytes, bytes_back, bytes_same, code, back, same, num_back, head, tail}
use Rattle.sky_base.specs.TreeCode.{nth}
use Rattle.sky_base.specs.declared.fault.FaultKind.{FaultKind}
use Rattle.sky_base_known.specs.Walk.{Obj}

-- the objects with one more under this number
abbrev pub with_object : ℕ → Obj → List (Option Obj) → List (Option Obj)
with_object zero o [] = Some o ∷ []
with_object zero o (x ∷ xs) = Some o ∷ xs
with_object (suc k) o [] = None ∷ with_object k o []
with_object (suc k) o (x ∷ xs) = x ∷ with_object k o xs

-- the value of an object keeps the limits
abbrev pub KeptObject : Obj → Type 0
KeptObject (Object.bytes b) = Unit {0}
KeptObject (Object.data_of v) = Kept v
KeptObject (Object.fault f) = Unit {0}

abbrev pub KeptOption : Option Obj → Type 0
KeptOption None = Unit {0}
KeptOption (Some o) = KeptObject o

abbrev pub KeptObjects : List (Option Obj) → Type 0
KeptObjects [] = Unit {0}
KeptObjects (o ∷ os) = KeptOption o × KeptObjects os

-- ---- a code for objects, by which a proof tells them apart

abbrev pub kind_code : FaultKind → ℕ
kind_code FaultKind.Unknown = 0
kind_code FaultKind.BadKind = 1
kind_code FaultKind.Overflow = 2
kind_code FaultKind.DivZero = 3
kind_code FaultKind.NoIndex = 4
kind_code FaultKind.NoKey = 5
kind_code FaultKind.TooLarge = 6
kind_code FaultKind.TooDeep = 7
kind_code FaultKind.TooLong = 8
kind_code FaultKind.NotData = 9
kind_code FaultKind.NotText = 10
kind_code FaultKind.BadCount = 11
kind_code FaultKind.BadExec = 12
kind_code FaultKind.BadLine = 13
kind_code FaultKind.WrongCount = 14

abbrev pub kinds : List FaultKind
kinds =
    FaultKind.Unknown ∷ FaultKind.BadKind ∷ FaultKind.Overflow ∷ FaultKind.DivZero ∷ FaultKind.NoIndex ∷ FaultKind.NoKey ∷ FaultKind.TooLarge
    ∷ FaultKind.TooDeep ∷ FaultKind.TooLong ∷ FaultKind.NotData ∷ FaultKind.NotText ∷ FaultKind.BadCount ∷ FaultKind.BadExec
    ∷ FaultKind.BadLine ∷ []

pub kind_same : (k : FaultKind) → nth (kind_code k) kinds FaultKind.WrongCount ≡ k
kind_same FaultKind.Unknown = refl
kind_same FaultKind.BadKind = refl
kind_same FaultKind.Overflow = refl
kind_same FaultKind.DivZero = refl
kind_same FaultKind.NoIndex = refl
kind_same FaultKind.NoKey = refl
kind_same FaultKind.TooLarge = refl
kind_same FaultKind.TooDeep = refl
kind_same FaultKind.TooLong = refl
kind_same FaultKind.NotData = refl
kind_same FaultKind.NotText = refl
kind_same FaultKind.BadCount = refl
kind_same FaultKind.BadExec = refl
kind_same FaultKind.BadLine = refl
kind_same FaultKind.WrongCount = refl

abbrev pub object_code : Obj → Gv
object_code (Object.bytes b) = gcons (gnum 0) (bytes b)
object_code (Object.data_of v) = gcons (gnum 1) (code v)
object_code (Object.fault f) = gcons (gnum 2) (gcons (gnum (kind_code f.kind)) (gcons (gnum f.line) (gnum f.col)))

abbrev pub object_back : Gv → Obj
object_back gnil = Object.bytes []
object_back (gnum n) = Object.bytes []
object_back (gcons t a) =
    nth (num_back t) (Object.bytes (bytes_back a) ∷ Object.data_of (back a) ∷ [])
    (Object.fault (record {
      kind = nth (num_back (head a)) kinds FaultKind.WrongCount;
      line = num_back (head (tail a));
      col =
          num_back (tail (tail a));
    }))

pub object_same : (o : Obj) → object_back (object_code o) ≡ o
object_same (Object.bytes b) = ap Object.bytes (bytes_same b)
object_same (Object.data_of v) = ap Object.data_of (same v)
object_same (Object.fault f) = ap (λ k. Object.fault (record { kind = k; line = f.line; col = f.col })) (kind_same f.kind)

abbrev pub object_coded : Coded Obj
object_coded = record { code = object_code; inj = λ x y e. sym (object_same x) ∙ ap object_back e ∙ object_same y }

abbrev pub objects_code : Coded (List (Option Obj))
objects_code = coded_list (coded_option object_coded)

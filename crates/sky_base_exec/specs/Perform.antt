-- What an executor task makes, over numbers.
use Rattle.std.specs.Prelude.{ℕ, zero, suc, List, [], ◌∷◌, Option, Some, None, Result, Ok, Err, Vec}
use Rattle.std.specs.declared.alloc.Global.{Global}
use Rattle.sky_base.specs.Val.{Val, Desc, ref, known, refs}
use Rattle.sky_base.specs.Res.{Object}
use Rattle.sky_base.specs.KitView.{Gives}
use Rattle.sky_base.specs.See.{slot, replaced, no_place, written}
use Rattle.sky_base.specs.declared.fault.FaultKind.{FaultKind}
use Rattle.sky_base.specs.declared.fault.Fault.{Fault}
use Rattle.sky_base_known.specs.Walk.{Row, Obj}

-- ---- the inputs

-- an object as an executor's input
abbrev pub bytes_of : (Val (List ℕ) → Option (List ℕ)) → Obj → Result (List ℕ) Fault
bytes_of writes (Object.bytes b) = Ok b
bytes_of writes (Object.data_of v) = written (writes v)
bytes_of writes (Object.fault f) = Err f

abbrev pub bytes_seen : (Val (List ℕ) → Option (List ℕ)) → Option Obj → Result (List ℕ) Fault
bytes_seen writes None = Err (no_place FaultKind.NotText)
bytes_seen writes (Some o) = bytes_of writes o

-- all of these, or the first fault in order
abbrev pub one_more : Result (List ℕ) Fault → Result (List (List ℕ)) Fault → Result (List (List ℕ)) Fault
one_more (Err f) rest = Err f
one_more (Ok b) (Err f) = Err f
one_more (Ok b) (Ok bs) = Ok (b ∷ bs)

abbrev pub collect : {N : Type 0} → (Desc N → Result (List ℕ) Fault) → List (Desc N) → Result (List (List ℕ)) Fault
collect g [] = Ok []
collect g (d ∷ ds) = one_more (g d) (collect g ds)

-- the bytes of what each of these refers to, where objects are known so
abbrev pub all_bytes : (Val (List ℕ) → Option (List ℕ)) → (Row → Option Obj) → List Row → Result (List (List ℕ)) Fault
all_bytes writes knows ds = collect (λ d. bytes_seen writes (knows d)) ds

-- ---- the arguments

-- slot k in the place of a reference
abbrev pub in_slot : {N : Type 0} → ℕ → Desc N → Val (List ℕ)
in_slot k d = ref (known (slot k))

-- the value with the k-th reference replaced by slot k
abbrev pub slots : {N : Type 0} → Val N → Val (List ℕ)
slots v = replaced in_slot 0 v

-- ---- what the task makes: the bytes of its outputs, or the fault that each of them is

abbrev pub without_place : Result (List (List ℕ)) FaultKind → Result (List (List ℕ)) Fault
without_place (Ok bs) = Ok bs
without_place (Err k) = Err (no_place k)

abbrev pub made_of : Gives → List ℕ → Val (List ℕ) → ℕ → Result (List (List ℕ)) Fault → Result (List (List ℕ)) Fault
made_of gives x v n (Err f) = Err f
made_of gives x v n (Ok bs) = without_place (gives x (slots v) bs n)

abbrev pub made : Gives → (Val (List ℕ) → Option (List ℕ)) → (Row → Option Obj) → List ℕ → Val (List ℕ) → ℕ → Result (List (List ℕ)) Fault
made gives writes knows x v n = made_of gives x v n (all_bytes writes knows (refs v))

-- output i; where an executor gives too few, the missing ones are empty
abbrev pub output_at : List (List ℕ) → ℕ → Obj
output_at [] i = Object.bytes []
output_at (b ∷ bs) zero = Object.bytes b
output_at (b ∷ bs) (suc i) = output_at bs i

abbrev pub output_of : Result (List (List ℕ)) Fault → ℕ → Obj
output_of (Ok bs) i = output_at bs i
output_of (Err f) i = Object.fault f

-- ---- what the code answers

-- lists of bytes, or a fault, as a list
abbrev pub listed : Result (Vec (List ℕ) Global) Fault → Result (List (List ℕ)) Fault
listed (Ok v) = Ok v.items
listed (Err f) = Err f

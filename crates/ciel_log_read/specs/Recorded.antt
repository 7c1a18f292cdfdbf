-- What the records of a log tell, and which bytes are a record's.
use Rattle.std.specs.Prelude.{◌≡◌, ◌<◌, ◌^◌, ℕ, List, length}
use Rattle.sky_base.specs.Name.{canon}
use Rattle.sky_base.specs.Res.{Object}
use Rattle.sky_base.specs.Val.{Desc, known}
use Rattle.sky_base.specs.declared.object.TaskId.{TaskId}
use Rattle.ciel_name.specs.Descs.{IsDescData, IsObjectData}
use Rattle.ciel_name.specs.Object.{object_bytes}
use Rattle.ciel_name.specs.Spelled.{IsName}
use Rattle.sky_frozen_bytes.specs.Codes.{Counted, Fits32}
use Rattle.ciel_log_records.specs.Records.{HowEnded, answered, dropped_record, failed, made, missing, report_record, saved, start_record}

-- a start; a report; a report that was dropped, since its worker is lost
pub data Recorded : Type 0 where
  started : (number worker from : ℕ) → TaskId → Recorded
  reported : (number : ℕ) → (spawned : List (Desc (List ℕ))) → (copied : List (List ℕ)) → HowEnded → Recorded
  dropped : (number : ℕ) → Recorded

abbrev pub record_bytes : Recorded → List ℕ
record_bytes (started number worker from task) = start_record number worker from task
record_bytes (reported number spawned copied how) = report_record number spawned copied how
record_bytes (dropped number) = dropped_record number

-- ---- which can be written and read again: each number fits its bytes, each block the four bytes of its length, and names, descriptions and
-- ---- objects are ones that can be read

-- the number has 64 bits
abbrev pub Fits64 : ℕ → Type 0
Fits64 n = n < 2 ^ 64

-- the length of these bytes has 32 bits
abbrev pub FitsBlock : List ℕ → Type 0
FitsBlock bytes = Fits32 (length bytes)

-- a name of 20 bytes, or of 32
abbrev pub IsNamed : List ℕ → Type 0
IsNamed name = IsName (known name)

abbrev pub IsTask : TaskId → Type 0
IsTask TaskId.Show = Unit {0}
IsTask (TaskId.Of name) = IsNamed name

abbrev pub IsSpawned : Desc (List ℕ) → Type 0
IsSpawned d = IsDescData d × FitsBlock (canon d)

abbrev pub IsOutput : Object (List ℕ) → Type 0
IsOutput o = IsObjectData o × FitsBlock (object_bytes o)

abbrev pub IsEnd : HowEnded → Type 0
IsEnd (made objects) = Counted IsOutput objects
IsEnd (saved j stack) = Fits32 j × FitsBlock stack
IsEnd (answered bytes) = FitsBlock bytes
IsEnd (failed fault) = Fits32 fault.line × Fits32 fault.col
IsEnd (missing name loss) = IsNamed name × Fits32 loss

abbrev pub IsRecord : Recorded → Type 0
IsRecord (started number worker from task) = Fits64 number × (Fits32 worker × (Fits32 from × IsTask task))
IsRecord (reported number spawned copied how) = Fits64 number × (Counted IsSpawned spawned × (Counted IsNamed copied × IsEnd how))
IsRecord (dropped number) = Fits64 number

-- where it isn't too long it can be read
abbrev pub CanBeRead : Recorded → Type 0
CanBeRead r = FitsBlock (record_bytes r) → IsRecord r

-- no record has these bytes
abbrev pub NoRecord : List ℕ → Type 0
NoRecord bytes = (r : Recorded) → IsRecord r → record_bytes r ≡ bytes → ⊥

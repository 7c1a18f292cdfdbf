-- The records of a run's log, to the byte. A number has its highest byte first.
use Rattle.std.specs.Prelude.{ℕ, List, [], ◌∷◌, ◌++◌, Bool, if◌then◌else◌, length}
use Rattle.std.specs.List.{flat_map}
use Rattle.sha1.specs.Sha1.{sha1}
use Rattle.sky_base.specs.Name.{big_endian, bytes_of_text, canon, name_bytes}
use Rattle.sky_base.specs.Res.{Object}
use Rattle.sky_base.specs.Val.{Desc}
use Rattle.sky_base.specs.declared.fault.Fault.{Fault}
use Rattle.sky_base.specs.declared.object.TaskId.{TaskId}
use Rattle.ciel_name.specs.Descs.{fault_bytes}
use Rattle.ciel_name.specs.Object.{object_bytes}

-- bytes behind their number
abbrev pub block : List ℕ → List ℕ
block bytes = big_endian 4 (length bytes) ++ bytes

-- things behind their number, each by its bytes
abbrev pub counted : {A : Type 0} → (A → List ℕ) → List A → List ℕ
counted spell xs = big_endian 4 (length xs) ++ flat_map spell xs

-- ---- what a log begins with

abbrev pub loss_bytes : ℕ × ℕ → List ℕ
loss_bytes loss = big_endian 4 loss.0 ++ big_endian 4 loss.1

-- an input is told by its key and the mark of its bytes
abbrev pub input_bytes : List ℕ × List ℕ → List ℕ
input_bytes input = bytes_of_text input.0 ++ sha1 input.1

-- which namer a run has: one whose names have 20 bytes, or one whose names have 32
abbrev pub namer_byte : Bool → ℕ
namer_byte short = if short then 1 else 2

-- the plan, the namer, the mark of the script's bytes, and the inputs
abbrev pub header_record : (workers seed : ℕ) → List (ℕ × ℕ) → (short : Bool) → (script : List ℕ) → List (List ℕ × List ℕ) → List ℕ
header_record workers seed losses short script inputs =
    72 ∷ (big_endian 4 workers ++ (big_endian 8 seed ++ (counted loss_bytes losses
    ++ (namer_byte short ∷ (sha1 script ++ counted input_bytes inputs)))))

-- ---- a start

abbrev pub task_bytes : TaskId → List ℕ
task_bytes TaskId.Show = 0 ∷ []
task_bytes (TaskId.Of name) = 1 ∷ name_bytes name

abbrev pub start_record : (number worker from : ℕ) → TaskId → List ℕ
start_record number worker from task = 83 ∷ (big_endian 8 number ++ (big_endian 4 worker ++ (big_endian 4 from ++ task_bytes task)))

-- ---- a report

-- how an order ended: with these objects, at this wait with a stack of these bytes, with an answer or a fault, or because an object was
-- missing with the worker of this loss
pub data HowEnded : Type 0 where
  made : List (Object (List ℕ)) → HowEnded
  saved : (j : ℕ) → (stack : List ℕ) → HowEnded
  answered : List ℕ → HowEnded
  failed : Fault → HowEnded
  missing : (name : List ℕ) → (loss : ℕ) → HowEnded

abbrev pub end_bytes : HowEnded → List ℕ
end_bytes (made objects) = 1 ∷ counted (λ o. block (object_bytes o)) objects
end_bytes (saved j stack) = 2 ∷ (big_endian 4 j ++ block stack)
end_bytes (answered bytes) = 3 ∷ block bytes
end_bytes (failed fault) = 4 ∷ fault_bytes fault
end_bytes (missing name loss) = 5 ∷ (name_bytes name ++ big_endian 4 loss)

-- what a report begins with: its number, the descriptions that were spawned, and the names of the objects that were copied
abbrev pub report_opening : (number : ℕ) → List (Desc (List ℕ)) → List (List ℕ) → List ℕ
report_opening number spawned copied =
    82 ∷ (big_endian 8 number ++ (counted (λ d. block (canon d)) spawned ++ counted name_bytes copied))

abbrev pub report_record : (number : ℕ) → List (Desc (List ℕ)) → List (List ℕ) → HowEnded → List ℕ
report_record number spawned copied how = report_opening number spawned copied ++ end_bytes how

-- ---- a report of a worker that is lost

abbrev pub dropped_record : (number : ℕ) → List ℕ
dropped_record number = 68 ∷ big_endian 8 number

-- a record in the file
abbrev pub in_file : List ℕ → List ℕ
in_file record_bytes = block record_bytes

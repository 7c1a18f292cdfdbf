-- The bytes of a record, and of a report's end, as a first byte, which tells its kind, and what stands behind it.
use Rattle.std.specs.Prelude.{◌≡◌, ℕ, List, ◌++◌}
use Rattle.sky_base.specs.Name.{big_endian, canon, name_bytes}
use Rattle.ciel_name.specs.Descs.{fault_bytes}
use Rattle.ciel_name.specs.Object.{object_bytes}
use Rattle.ciel_log_records.specs.Records.{HowEnded, answered, block, counted, end_bytes, failed, made, missing, saved, task_bytes}
use Rattle.ciel_log_read.specs.Recorded.{Recorded, dropped, reported, started}

-- this is the first byte, and it can be written and read again
abbrev pub IsOfKind : {A : Type 0} → (A → ℕ) → (A → Type 0) → ℕ → A → Type 0
IsOfKind tag Is k x = (tag x ≡ k) × Is x

abbrev pub record_tag : Recorded → ℕ
record_tag (started number worker from task) = 83
record_tag (reported number spawned copied how) = 82
record_tag (dropped number) = 68

abbrev pub record_body : Recorded → List ℕ
record_body (started number worker from task) = big_endian 8 number ++ (big_endian 4 worker ++ (big_endian 4 from ++ task_bytes task))
record_body (reported number spawned copied how) =
    big_endian 8 number ++ (counted (λ d. block (canon d)) spawned ++ (counted name_bytes copied ++ end_bytes how))
record_body (dropped number) = big_endian 8 number

abbrev pub end_tag : HowEnded → ℕ
end_tag (made objects) = 1
end_tag (saved j stack) = 2
end_tag (answered bytes) = 3
end_tag (failed fault) = 4
end_tag (missing name loss) = 5

abbrev pub end_body : HowEnded → List ℕ
end_body (made objects) = counted (λ o. block (object_bytes o)) objects
end_body (saved j stack) = big_endian 4 j ++ block stack
end_body (answered bytes) = block bytes
end_body (failed fault) = fault_bytes fault
end_body (missing name loss) = name_bytes name ++ big_endian 4 loss

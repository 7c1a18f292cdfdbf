-- What a log tells of a run, entry by entry: as its journal, with what was spawned, and how much each object and each stack weighs in place of
-- its mark.
use Rattle.std.specs.Prelude.{ℕ, ◌-◌, List, map, length}
use Rattle.sky_base.specs.Res.{Object}
use Rattle.sky_base.specs.Val.{Desc}
use Rattle.sky_base.specs.declared.fault.Fault.{Fault}
use Rattle.sky_base.specs.declared.object.TaskId.{TaskId}
use Rattle.ciel_name.specs.Object.{object_bytes}
use Rattle.ciel_log_records.specs.Records as records
use Rattle.ciel_log_records.specs.Records.{HowEnded}

-- how an order ended: with objects of these weights, at this wait with a stack of so many bytes, with an answer of so many or with a fault, or
-- because an object was missing with the worker of this loss
pub data Outcome : Type 0 where
  made : (weights : List ℕ) → Outcome
  saved : (j weight : ℕ) → Outcome
  answered : (weight : ℕ) → Outcome
  failed : Fault → Outcome
  missing : (name : List ℕ) → (loss : ℕ) → Outcome

-- the bytes of an object behind the first one, which tells its kind
abbrev pub weight : Object (List ℕ) → ℕ
weight o = length (object_bytes o) - 1

abbrev pub outcome : HowEnded → Outcome
outcome (records.made objects) = made (map weight objects)
outcome (records.saved j stack) = saved j (length stack)
outcome (records.answered bytes) = answered (length bytes)
outcome (records.failed fault) = failed fault
outcome (records.missing name loss) = missing name loss

-- a start; the end of an order that was out; a worker's loss; a report of an order that was out no longer
pub data Told : Type 0 where
  started : (number worker from : ℕ) → TaskId → Told
  ended : (number : ℕ) → (spawned : List (Desc (List ℕ))) → (copied : List (List ℕ)) → Outcome → Told
  lost : (worker after : ℕ) → Told
  late : (number : ℕ) → Told

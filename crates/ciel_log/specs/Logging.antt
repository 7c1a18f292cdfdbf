-- What a crew that keeps a log tells, and what each of its calls makes of that.
use Rattle.std.specs.Prelude.{◌≡◌, ◌≤◌, ◌<◌, ◌^◌, ◌+◌, ◌++◌, ℕ, List, [], ◌∷◌, Option, length, map}
use Rattle.atomic_table.specs.Seated.{TableId}
use Rattle.sky_base.specs.ObjectView.{desc_view}
use Rattle.sky_base.specs.Res.{Object}
use Rattle.sky_base.specs.Val.{known}
use Rattle.sky_base.specs.declared.object.Named.{Named}
use Rattle.sky_base_law.specs.Tasks.{Each}
use Rattle.sky_frozen_bytes.specs.Bytes.{frozen_bytes}
use Rattle.sky_frozen_bytes.specs.Codes.{Fits32}
use Rattle.sky_state.specs.Stand.{Stand}
use Rattle.sky_state.specs.declared.shown.Shown.{Shown}
use Rattle.ciel_name.specs.Spelled.{IsName}
use Rattle.ciel_name_law.specs.Told.{DescTold, FaultTold, ObjectTold}
use Rattle.ciel_io.specs.Faults.{HasRisen}
use Rattle.ciel_io.specs.Kept.{Appended, AppendedPart, Changes, Files}
use Rattle.ciel_io.specs.Tells.{Tells}
use Rattle.ciel_store.specs.declared.loss.Loss.{Loss}
use Rattle.ciel_task_order.specs.Orders.{names_in}
use Rattle.ciel_task_order.specs.Shop.{Block, block_view}
use Rattle.ciel_task_order.specs.declared.report.End.{End}
use Rattle.ciel_task_order.specs.declared.report.Made.{Made}
use Rattle.ciel_task_order.specs.declared.report.Report.{Report}
use Rattle.ciel_task_crew.specs.Calls.{Call, given, sent, ungiven, unsent}
use Rattle.ciel_log_records.specs.Records.{HowEnded, dropped_record, in_file, report_record, start_record}
use Rattle.ciel_log.specs.declared.state.LogState.{LogState}

-- a log has at most so many bytes
abbrev pub most : ℕ
most = 268435456

-- ---- what is told

-- The path of the log; what its keeper tells of its files, of the paths asked, and of its faults; how many bytes the log has; how it stands;
-- and the losses that the log's eye has seen
pub record LogSeen : Type 0 where
  pub path : List ℕ
  pub files : Option Files
  pub asked : Option (List (List ℕ))
  pub faults : ℕ
  pub held : ℕ
  pub state : LogState
  pub losses : List Loss

-- beside what the inner crew tells of its calls
pub record CrewLog (R : Type 0) : Type 0 where
  pub inner : R
  pub log : LogSeen

-- which keeper was lent, at whose words the eye sits, and what is told of the log
pub record LogKept : Type 0 where
  pub keep : ℕ
  pub of : TableId
  pub seen : LogSeen

-- a crew with a log: the inner crew, which keeper was lent, and what is told of the log
pub record LoggedSeen (C : Type 0) : Type 0 where
  pub inner : C
  pub keep : ℕ
  pub log : LogSeen

-- what stays through each call: which keeper was lent, the path of the log, and what stays of the inner crew
pub record Stay (I : Type 0) : Type 0 where
  pub keep : ℕ
  pub path : List ℕ
  pub inner : I

-- ---- the record of a report

-- how the root task ended
abbrev pub shown_end : Shown → HowEnded
shown_end (Shown.Text text) = HowEnded.answered text
shown_end (Shown.Fault fault) = HowEnded.failed fault

-- how an order ended, with what lies at the places that its end gives
abbrev pub EndedSo : End → HowEnded → Type 0
EndedSo (End.Made ms) how =
    (objects : List (Object (List ℕ))) × (map (λ (m : Made). block_view m.place.at.value) ms.items ≡ map Block.object objects)
    × (how ≡ HowEnded.made objects)
EndedSo (End.Saved p j refs holds mark) how =
    (stack : Stand (List ℕ)) × (block_view p.at.value ≡ Block.stack stack) × (how ≡ HowEnded.saved j (frozen_bytes stack))
EndedSo (End.Shown shown) how = how ≡ shown_end shown
EndedSo (End.Missing name loss seen) how = how ≡ HowEnded.missing name loss.number

-- what the types of the code tell of an end
abbrev pub EndTyped : HowEnded → Type 0
EndTyped (HowEnded.made objects) = Each ObjectTold objects
EndTyped (HowEnded.saved j stack) = Fits32 j
EndTyped (HowEnded.answered text) = Unit {0}
EndTyped (HowEnded.failed fault) = FaultTold fault
EndTyped (HowEnded.missing name loss) = IsName (known name) × Fits32 loss

-- what was copied is told of a task that came to its end alone
abbrev pub told_copies : Report → List (List ℕ)
told_copies r = copies r.end
  where
    copies : End → List (List ℕ)
    copies (End.Made ms) = names_in r.copied.items
    copies (End.Shown shown) = names_in r.copied.items
    copies _ = []

-- what the types of the code tell of what a report's record has
pub record RecordTyped (r : Report) (how : HowEnded) : Type 0 where
  pub number : r.number < 2 ^ 64
  pub spawned : Each (λ (n : Named). DescTold (desc_view n.desc)) r.spawned.items
  pub copied : Each (λ n. IsName (known n)) (told_copies r)
  pub end : EndTyped how

-- the end gives a place, which is at the report's worker
abbrev pub GivesPlace : End → Type 0
GivesPlace (End.Made ms) = 0 < length ms.items
GivesPlace (End.Saved p j refs holds mark) = Unit {0}
GivesPlace _ = ⊥

-- it tells the report whole; or its worker is lost, which the eye has seen just then
pub data IsRecordOf (r : Report) (before after : List Loss) (bytes : List ℕ) : Type 0 where
  whole : (how : HowEnded) → EndedSo r.end how → RecordTyped r how
      → bytes ≡ report_record r.number (map (λ (n : Named). desc_view n.desc) r.spawned.items) (told_copies r) how
      → after ≡ before → IsRecordOf r before after bytes
  dropped : (loss : Loss) → GivesPlace r.end → loss.worker ≡ r.worker
      → bytes ≡ dropped_record r.number
      → after ≡ before ++ loss ∷ [] → IsRecordOf r before after bytes

-- ---- what a call puts behind the log

-- nothing was asked of the keeper
pub record Unasked (a b : LogSeen) : Type 0 where
  pub files : b.files ≡ a.files
  pub asked : b.asked ≡ a.asked
  pub faults : b.faults ≡ a.faults
  pub held : b.held ≡ a.held

-- such a record is put behind the log; or a part of it, and the keeper failed; or it would be too long; or there was no memory for it
pub data Tried (Q : List ℕ → Type 0) (a b : LogSeen) : Type 0 where
  put : (bytes : List ℕ) → Q bytes → a.held + length (in_file bytes) ≤ most
      → Changes a.files b.files a.path (Appended (in_file bytes)) → Tells a.asked b.asked (a.path ∷ []) → a.faults ≤ b.faults
      → b.held ≡ a.held + length (in_file bytes) → b.state ≡ LogState.Whole → Tried Q a b
  failed : (bytes : List ℕ) → Q bytes → a.held + length (in_file bytes) ≤ most
      → Changes a.files b.files a.path (AppendedPart (in_file bytes)) → Tells a.asked b.asked (a.path ∷ []) → a.faults ≤ b.faults
      → HasRisen a.faults b.faults → b.held ≡ a.held → b.state ≡ LogState.Failed → Tried Q a b
  full : (bytes : List ℕ) → Q bytes → most < a.held + length (in_file bytes)
      → Unasked a b → b.state ≡ LogState.Full a.held → Tried Q a b
  short : Unasked a b → b.state ≡ LogState.Memory → Tried Q a b

-- after the first trouble nothing more is
abbrev pub AddsAt : LogState → (List ℕ → Type 0) → LogSeen → LogSeen → Type 0
AddsAt LogState.Whole Q a b = Tried Q a b
AddsAt _ Q a b = b ≡ a

abbrev pub Adds : (List ℕ → Type 0) → LogSeen → LogSeen → Type 0
Adds Q a b = AddsAt a.state Q a b

-- what a call makes of the log
abbrev pub LogGoes : LogSeen → Call → LogSeen → Type 0
LogGoes a (sent o) b = Adds (λ bytes. bytes ≡ start_record o.number o.worker o.from o.task) a b × (b.losses ≡ a.losses)
LogGoes a (unsent o) b = Adds (λ bytes. bytes ≡ start_record o.number o.worker o.from o.task) a b × (b.losses ≡ a.losses)
LogGoes a (given r) b = Adds (IsRecordOf r a.losses b.losses) a b
LogGoes a ungiven b = b ≡ a

-- and of all that is told, where the inner crew's calls go so
module _ {R : Type 0} (inner_goes : R → Call → R → Type 0) where
  pub record GoesOn (a : CrewLog R) (call : Call) (b : CrewLog R) : Type 0 where
    pub inner : inner_goes a.inner call b.inner
    pub path : b.log.path ≡ a.log.path
    pub log : LogGoes a.log call b.log

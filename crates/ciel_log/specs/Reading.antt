-- What lies at the places of a report, read by an eye.
use Rattle.std.specs.Prelude.{◌≡◌, ◌++◌, ℕ, List, [], ◌∷◌}
use Rattle.sky_base.specs.ObjectView.{object_view}
use Rattle.sky_base.specs.Res.{Object}
use Rattle.sky_base_law.specs.Tasks.{Each}
use Rattle.ciel_store.specs.Seen.{IsPlaceOf, SeatSeen, ShelvesSeen}
use Rattle.ciel_store.specs.declared.loss.Loss.{Loss}
use Rattle.ciel_task_order.specs.declared.block.Block.{Block}
use Rattle.ciel_task_order.specs.declared.report.End.{End}
use Rattle.ciel_task_order.specs.declared.report.Made.{Made}
use Rattle.ciel_log_records.specs.Records.{HowEnded, end_bytes}
use Rattle.ciel_log.specs.Logging.{EndTyped, EndedSo}

-- an object lies there, or a stack
abbrev pub IsObject : Block → Type 0
IsObject (Block.Object o) = Unit {0}
IsObject (Block.Frozen s) = ⊥

abbrev pub IsStack : Block → Type 0
IsStack (Block.Object o) = ⊥
IsStack (Block.Frozen s) = Unit {0}

-- the object that lies there, of an output
abbrev pub object_there : Block → Object (List ℕ)
object_there (Block.Object o) = object_view o
object_there (Block.Frozen s) = Object.bytes []

abbrev pub object_of : Made → Object (List ℕ)
object_of m = object_there m.place.at.value

-- it is a place of the shelves where an object lies
abbrev pub OutputThere : ShelvesSeen → Made → Type 0
OutputThere shelves m = IsPlaceOf shelves m.place × IsObject m.place.at.value

-- all are at this worker
abbrev pub AllAt : ℕ → List Made → Type 0
AllAt worker ms = Each (λ m. m.place.worker ≡ worker) ms

-- the eye has seen one loss more, of this worker
abbrev pub Sees : ℕ → SeatSeen → SeatSeen → Loss → Type 0
Sees worker before after loss = (loss.worker ≡ worker) × (after.losses ≡ before.losses ++ loss ∷ [])

-- an end was put behind what was written, with what lies at its places
abbrev pub PutEnd : End → List ℕ → List ℕ → Type 0
PutEnd end before after = (how : HowEnded) × EndedSo end how × EndTyped how × (after ≡ before ++ end_bytes how)

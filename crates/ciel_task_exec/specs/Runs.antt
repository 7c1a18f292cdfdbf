-- What an executor's order reads.
use Rattle.std.specs.Prelude.{◌≡◌, ℕ, List, [], ◌∷◌, ◌++◌, Some}
use Rattle.sky_base.specs.Val.{Val, distinct, known, refs, same_text}
use Rattle.sky_base_law.specs.Tasks.{In}
use Rattle.sky_base_exec.specs.Perform.{all_bytes, listed}
use Rattle.ciel_json.specs.Text.{text_of as writes}
use Rattle.ciel_store.specs.Seen.{SeatSeen, ShelvesSeen}
use Rattle.ciel_store.specs.declared.loss.Loss.{Loss}
use Rattle.ciel_table.specs.Named.{found}
use Rattle.ciel_task_order.specs.declared.block.Held.{Held}
use Rattle.ciel_task_order.specs.declared.order.Order.{Order}
use Rattle.ciel_task_order.specs.declared.report.End.{End}
use Rattle.ciel_task_inputs.specs.Lies.{LostAt, held_name}
use Rattle.ciel_task_inputs.specs.Brought.{lies_known}
use Rattle.ciel_task_inputs.specs.Copies.{Copies}
use Rattle.ciel_task_inputs.specs.Fetched.{fetched}
use Rattle.ciel_task_order.specs.Orders.{names_in}
use Rattle.ciel_task_exec.specs.declared.found.Found.{Found}

-- the inputs are the bytes of what lies there; or one of the names in the arguments lies at a worker that is lost
abbrev pub FoundSo : List (List ℕ × List ℕ) → List Held → Val (List ℕ) → Found → Type 0
FoundSo inputs held a (Found.All bytes cs) = listed bytes ≡ all_bytes writes (lies_known inputs held) (refs a)
FoundSo inputs held a (Found.Lost nm l) = In (known nm) (refs a) × (h : Held) × (found held_name nm held ≡ Some h) × LostAt l h.at

-- what was copied are those names in the arguments that lie on another worker's shelf, each once, in order
abbrev pub CopiedAlong : ShelvesSeen → ℕ → List (List ℕ × List ℕ) → List Held → Val (List ℕ) → Found → Type 0
CopiedAlong shelves w inputs held a (Found.All bytes cs) =
    Copies shelves w inputs held cs.items × (names_in cs.items ≡ fetched w held (distinct same_text (refs a)))
CopiedAlong shelves w inputs held a (Found.Lost nm l) = Unit {0}

-- the eye saw that loss, and nothing else
abbrev pub SawLoss : Found → (old new : SeatSeen) → Type 0
SawLoss (Found.All bytes cs) old new = new ≡ old
SawLoss (Found.Lost nm l) old new = new.losses ≡ old.losses ++ l ∷ []

-- ---- of an order

abbrev pub CopiedOf : ShelvesSeen → List (List ℕ × List ℕ) → Order → Val (List ℕ) → Found → Type 0
CopiedOf shelves inputs order a r = CopiedAlong shelves order.worker inputs order.inputs.items a r

-- the loss is the last that the eye saw
abbrev pub LostOf : Found → SeatSeen → Type 0
LostOf (Found.All bytes cs) eye = Unit {0}
LostOf (Found.Lost nm l) eye = (before : List Loss) × (eye.losses ≡ before ++ l ∷ [])

-- what was missing was seen through this eye
abbrev pub SeenBy : SeatSeen → End → Type 0
SeenBy eye (End.Missing name loss seen) = seen ≡ Some eye
SeenBy eye _ = Unit {0}

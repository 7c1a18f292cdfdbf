-- What lies where an order says.
use Rattle.std.specs.Prelude.{◌≡◌, ℕ, List, [], ◌∷◌, ◌++◌, ◌==◌, Bool, true, false, not, Option, Some, None, slice_get}
use Rattle.std.specs.Option.{option_map}
use Rattle.sky_base.specs.ObjectView.{object_view}
use Rattle.sky_base.specs.Res as logic
use Rattle.ciel_store.specs.Seen.{IsPlaceOf, PlaceSeen, ShelvesSeen}
use Rattle.ciel_store.specs.declared.loss.Loss.{Loss}
use Rattle.ciel_task_order.specs.declared.block.Block.{Block}
use Rattle.ciel_task_order.specs.declared.block.Held.{Held}
use Rattle.ciel_task_order.specs.declared.block.Spot.{Spot}

abbrev pub held_name : Held → List ℕ
held_name h = h.name

-- an object as it lies on a shelf; a stack is none
abbrev pub object_in : Block → Option (logic.Object (List ℕ))
object_in (Block.Object o) = Some (object_view o)
object_in (Block.Frozen s) = None

-- what lies at a spot, where these are the inputs of the job: an object on a shelf, or an input's bytes
abbrev pub lies_at : List (List ℕ × List ℕ) → Spot → Option (logic.Object (List ℕ))
lies_at inputs (Spot.Shelf p) = object_in p.at.value
lies_at inputs (Spot.Input i) = option_map (λ x. logic.Object.bytes x.1) (slice_get inputs i)

-- the spot is at the worker that is lost
abbrev pub LostAt : Loss → Spot → Type 0
LostAt l (Spot.Shelf p) = l.worker ≡ p.worker
LostAt l (Spot.Input i) = ⊥

-- whether it lies on the shelf of another worker
abbrev pub is_elsewhere : ℕ → Spot → Bool
is_elsewhere w (Spot.Shelf p) = not (p.worker == w)
is_elsewhere w (Spot.Input i) = false

-- one is named beside those that were copied before: it has the name, and lies on the shelf of this worker
abbrev pub CopiedOne : ShelvesSeen → (worker : ℕ) → List ℕ → logic.Object (List ℕ) → (old new : List Held) → Type 0
CopiedOne shelves w n o old new =
    (p : PlaceSeen Block) × (new ≡ old ++ (record { name = n; at = Spot.Shelf p } ∷ [])) × IsPlaceOf shelves p × (p.worker ≡ w)
    × (object_in p.at.value ≡ Some o)

abbrev pub CopiedIf : Bool → ShelvesSeen → (worker : ℕ) → List ℕ → logic.Object (List ℕ) → (old new : List Held) → Type 0
CopiedIf true shelves w n o old new = CopiedOne shelves w n o old new
CopiedIf false shelves w n o old new = new ≡ old

-- what lay on another worker's shelf was copied to the own one, and else nothing was
abbrev pub CopiedSo : ShelvesSeen → (worker : ℕ) → Held → logic.Object (List ℕ) → (old new : List Held) → Type 0
CopiedSo shelves w h o old new = CopiedIf (is_elsewhere w h.at) shelves w h.name o old new

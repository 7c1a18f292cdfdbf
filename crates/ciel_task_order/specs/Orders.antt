-- When an order is sound for a shop.
use Rattle.std.specs.Prelude.{◌≡◌, ◌≢◌, ℕ, ◌<◌, List, length, map, Option, Some, None}
use Rattle.std.specs.List.{IsDistinct}
use Rattle.sky_base.specs.Kept.{Kept}
use Rattle.sky_base.specs.Name.{digested, held_name}
use Rattle.sky_base.specs.ObjectView.{desc_view, object_view}
use Rattle.sky_base.specs.Tree.{Script}
use Rattle.sky_base.specs.Val.{refs, same_text}
use Rattle.sky_base.specs.View.{view}
use Rattle.sky_base.specs.declared.object.Desc1.{Desc1}
use Rattle.sky_base.specs.declared.object.TaskId.{TaskId}
use Rattle.ciel_master_board.specs.BaseLawSound.{SoundObject}
use Rattle.ciel_master_board.specs.Tasks.{Each, In}
use Rattle.sky_state.specs.Fits.{Fits}
use Rattle.sky_state.specs.Pending.{pending_in, stand_wait}
use Rattle.sky_state.specs.Stand.{Stand}
use Rattle.sky_state.specs.Start.{CanStart}
use Rattle.ciel_master_board.specs.Names.{first_output}
use Rattle.ciel_store.specs.Seen.{IsPlaceOf, PlaceSeen, ShelvesSeen}
use Rattle.ciel_task_order.specs.declared.block.Block.{Block}
use Rattle.ciel_task_order.specs.declared.block.Held.{Held}
use Rattle.ciel_task_order.specs.declared.block.Spot.{Spot}
use Rattle.ciel_task_order.specs.declared.order.Order.{Order}

-- ---- what lies at a place

-- an object that is sound for the script
abbrev pub HasObject : Script → Block → Type 0
HasObject sc (Block.Object o) = SoundObject sc (object_view o)
HasObject sc (Block.Frozen s) = ⊥

-- a stack with this property
abbrev pub HasStack : (Stand (List ℕ) → Type 0) → Block → Type 0
HasStack P (Block.Object o) = ⊥
HasStack P (Block.Frozen s) = P s

-- the names of what is brought along
abbrev pub names_in : List Held → List (List ℕ)
names_in hs = map (λ (h : Held). h.name) hs

abbrev pub SpotSound : ShelvesSeen → Script → ℕ → Spot → Type 0
SpotSound shelves sc inputs (Spot.Shelf p) = IsPlaceOf shelves p × HasObject sc p.at.value
SpotSound shelves sc inputs (Spot.Input i) = i < inputs

-- ---- what is to be done

-- a state of this kind of task: of the root task or of a call
abbrev pub OfKind : TaskId → Stand (List ℕ) → Type 0
OfKind TaskId.Show (Stand.show_at v w) = Unit {0}
OfKind (TaskId.Of n) (Stand.run r) = Unit {0}
OfKind _ _ = ⊥

-- what a task is the call, or the executor task, of, with what such a task needs at its start
abbrev pub CanBegin : Script → List (List ℕ) → Desc1 → Type 0
CanBegin sc given (Desc1.Call f c vs) = CanStart sc f c vs
CanBegin sc given (Desc1.Exec x a n i) = (i ≡ 0) × Kept (view a) × Each (λ d. In (held_name d) given) (refs (view a))
CanBegin sc given (Desc1.Input k) = ⊥

-- the root task has none; another one has the description by which it goes, of the task's name
abbrev pub Describes : (List ℕ → List ℕ) → Script → List (List ℕ) → TaskId → Option Desc1 → Type 0
Describes digest sc given TaskId.Show None = Unit {0}
Describes digest sc given (TaskId.Of n) (Some d) = (n ≡ digested digest (first_output (desc_view d))) × CanBegin sc given d
Describes digest sc given _ _ = ⊥

-- where the task goes on, its stack stands at the order's wait, and all that it waits for there is brought along
pub record GoesOnFrom (shelves : ShelvesSeen) (sc : Script) (order : Order) (p : PlaceSeen Block) : Type 0 where
  pub place : IsPlaceOf shelves p
  pub stack : HasStack (λ s. Fits sc s × OfKind order.task s × (stand_wait s ≡ order.from)
      × Each (λ d. In (held_name d) (names_in order.inputs.items)) (pending_in same_text s)) p.at.value

-- at its start the root task waits for the main call
abbrev pub ShowsMain : Order → TaskId → Type 0
ShowsMain order TaskId.Show = In order.main (names_in order.inputs.items)
ShowsMain order (TaskId.Of n) = Unit {0}

abbrev pub Saved : ShelvesSeen → Script → Order → Option (PlaceSeen Block) → Type 0
Saved shelves sc order None = (order.from ≡ 0) × ShowsMain order order.task
Saved shelves sc order (Some p) = (order.from ≢ 0) × GoesOnFrom shelves sc order p

-- an order that a worker of these shelves can perform, for a script and so many inputs
pub record OrderSound (digest : List ℕ → List ℕ) (shelves : ShelvesSeen) (sc : Script) (inputs : ℕ) (order : Order) : Type 0 where
  pub worker : order.worker < length shelves.rows
  pub describes : Describes digest sc (names_in order.inputs.items) order.task order.desc
  pub saved : Saved shelves sc order order.saved
  pub spots : Each (λ (h : Held). SpotSound shelves sc inputs h.at) order.inputs.items
  pub distinct : IsDistinct same_text (names_in order.inputs.items)
